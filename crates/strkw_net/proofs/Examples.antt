-- The examples of the formats, and their texts of least and greatest length, are derived.
use Rattle.std.proofs.Common.{ℕ, zero, suc, [], ◌∷◌, refl, arith, inl, inr}
use Rattle.std.specs.Prelude.{codes, replicate}
use Rattle.std.specs.Fmt.{digits}
use Rattle.std.proofs.lemmas.List.Sums.{AllPass-from_list_all}
use Rattle.std.specs.Str.Parse.{AllDigits}
use Rattle.strkw_text.proofs.Classes.{hexdigits_between}
use Rattle.strkw_text.proofs.Laws.{then}
use Rattle.strkw_text.proofs.Separated.{separated-from_joined}
use Rattle.strkw_net.specs.Addresses.{IsIpv4, IsIpv6, Groups, H16}
use Rattle.strkw_net.specs.HostName.{IsAsciiHostName, IsLabel, is_letter_digit_hyphen, longest_name}
use Rattle.strkw_net.specs.Uuid.{IsUuid}
use Rattle.strkw_net.proofs.UuidLemmas.{uuid_at}

-- the text "127.0.0.1" is an IPv4 address
pub ipv4_example : IsIpv4 (codes "127.0.0.1")
unfolding digits
ipv4_example = record { a = 127; b = 0; c = 0; d = 1; fit = (omega arith, omega arith, omega arith, omega arith); spelled = refl }

-- the text "0.0.0.0" is an IPv4 address
pub ipv4_shortest : IsIpv4 (codes "0.0.0.0")
unfolding digits
ipv4_shortest = record { a = 0; b = 0; c = 0; d = 0; fit = (omega arith, omega arith, omega arith, omega arith); spelled = refl }

-- the text "255.255.255.255" is an IPv4 address
pub ipv4_longest : IsIpv4 (codes "255.255.255.255")
unfolding digits
ipv4_longest = record { a = 255; b = 255; c = 255; d = 255; fit = (omega arith, omega arith, omega arith, omega arith); spelled = refl }

-- so many times "0" are hexadecimal digits
zeros : (n : ℕ) → AllDigits 16 (replicate n 48)
zeros zero = tt
zeros (suc n) = (omega arith, zeros n)

-- an empty text is a text of no groups
no_groups : Groups 0 []
no_groups = record { groups = []; each = tt; counted = refl; spelled = refl }

-- the text "1" is one group
one_group : Groups 1 (codes "1")
one_group = record {
  groups = codes "1" ∷ [];
  each = ((hexdigits_between 1 4 (codes "1")).1 ((omega arith, tt), omega arith, omega arith), tt);
  counted = refl;
  spelled = refl;
}

-- the text "::" is an IPv6 address
pub ipv6_shortest : IsIpv6 (codes "::")
ipv6_shortest = inr (record {
  before = 0;
  after = 0;
  at_most_seven = omega arith;
  spelled = then [] (codes "::") (codes "::") no_groups (then (codes "::") [] (codes "::") refl (inl no_groups) refl) refl;
})

-- the text "::1" is an IPv6 address
pub ipv6_example : IsIpv6 (codes "::1")
ipv6_example = inr (record {
  before = 0;
  after = 1;
  at_most_seven = omega arith;
  spelled = then [] (codes "::1") (codes "::1") no_groups (then (codes "::") (codes "1") (codes "::1") refl (inl one_group) refl) refl;
})

-- the text "0000" is a group of an IPv6 address
four_zeros : H16 (codes "0000")
four_zeros = (hexdigits_between 1 4 (codes "0000")).1 (zeros 4, omega arith, omega arith)

-- six such groups and "255.255.255.255", with colons between them, are an IPv6 address
pub ipv6_longest : IsIpv6 (codes "0000:0000:0000:0000:0000:0000:255.255.255.255")
ipv6_longest = inl (inr (record {
  groups = replicate 6 (codes "0000");
  each = (four_zeros, (four_zeros, (four_zeros, (four_zeros, (four_zeros, (four_zeros, tt))))));
  address = codes "255.255.255.255";
  address_is = ipv4_longest;
  counted = refl;
  spelled = refl;
}))

-- the letter a, 63 times, is a label
label_63 : IsLabel (replicate 63 97)
label_63 = record {
  size = (omega arith, omega arith);
  letters = AllPass-from_list_all is_letter_digit_hyphen (replicate 63 97) refl;
  first = λ e. omega arith;
  last = λ e. omega arith;
}

-- the letter a, 61 times, is a label
label_61 : IsLabel (replicate 61 97)
label_61 = record {
  size = (omega arith, omega arith);
  letters = AllPass-from_list_all is_letter_digit_hyphen (replicate 61 97) refl;
  first = λ e. omega arith;
  last = λ e. omega arith;
}

-- labels of 63, 63, 63 and 61 letters, with dots between them, are a host name
pub hostname_longest : IsAsciiHostName longest_name
hostname_longest = record {
  labels = separated-from_joined 46 IsLabel longest_name (record {
    parts = replicate 63 97 ∷ replicate 63 97 ∷ replicate 63 97 ∷ replicate 61 97 ∷ [];
    some = omega arith;
    each = (label_63, (label_63, (label_63, (label_61, tt))));
    spelled = refl;
  });
  size = omega arith;
}

-- the letter a alone is a label
label_a : IsLabel (codes "a")
label_a = record {
  size = (omega arith, omega arith);
  letters = AllPass-from_list_all is_letter_digit_hyphen (codes "a") refl;
  first = λ e. omega arith;
  last = λ e. omega arith;
}

-- the letter a alone is a host name
pub hostname_shortest : IsAsciiHostName (codes "a")
hostname_shortest = record {
  labels = separated-from_joined 46 IsLabel (codes "a") (record { parts = codes "a" ∷ []; some = omega arith; each = (label_a, tt); spelled = refl });
  size = omega arith;
}

-- the text "example" is a label
label_example : IsLabel (codes "example")
label_example = record {
  size = (omega arith, omega arith);
  letters = AllPass-from_list_all is_letter_digit_hyphen (codes "example") refl;
  first = λ e. omega arith;
  last = λ e. omega arith;
}

-- the text "com" is a label
label_com : IsLabel (codes "com")
label_com = record {
  size = (omega arith, omega arith);
  letters = AllPass-from_list_all is_letter_digit_hyphen (codes "com") refl;
  first = λ e. omega arith;
  last = λ e. omega arith;
}

-- the text "example.com" is a host name
pub hostname_example : IsAsciiHostName (codes "example.com")
hostname_example = record {
  labels = separated-from_joined 46 IsLabel (codes "example.com")
      (record { parts = codes "example" ∷ codes "com" ∷ []; some = omega arith; each = (label_example, (label_com, tt)); spelled = refl });
  size = omega arith;
}

-- the text "00000000-0000-4000-8000-000000000000" is a UUID
pub uuid_example : IsUuid (codes "00000000-0000-4000-8000-000000000000")
uuid_example = (uuid_at (codes "00000000-0000-4000-8000-000000000000")).1 (record {
  size = refl;
  dash_8 = refl;
  dash_13 = refl;
  dash_18 = refl;
  dash_23 = refl;
  runs = record { a = zeros 8; b = zeros 4; c = (omega arith, zeros 3); d = (omega arith, zeros 3); e = zeros 12 };
})
