use Rattle.std.proofs.Common.{rules, ℕ, ◌-◌, ◌++◌, Bor, drop, get_or, length, take, List, ◌≡◌, ◌∷◌, [], ◌∙◌, ap, sym, map, lit<, Ok, string_bytes}
use Rattle.std.proofs.Math.Path.{ap₂}
use Rattle.std.proofs.lemmas.List.{take_all}
use Rattle.std.specs.List.{flat_map}
use Rattle.std.proofs.lemmas.Iterator.Consumers.{map_from_collect}
use Rattle.std.proofs.lemmas.Iterator.Splits.{YieldsList-from_str_split}
use Rattle.neldrafi_schema.specs.machine.Words.{after_tilde}
use Rattle.neldrafi_schema.proofs.Lists.{first_and_others}
use Rattle.neldrafi_schema.proofs.Tokens.{joined, parts, parts_of}
use Rattle.neldrafi_schema.proofs.places.unescaped.Goals as goal

pub returns : goal.returns
returns c =
    let token = c.args.token.now in
    let cut : map (λ t. t.now) c.in_ok-parts.parts.items ≡ parts_of token =
    map_from_collect {E = Unit {0}} (Ok c.in_ok-parts.parts) c.in_ok-parts.ensures.ran
    (YieldsList-from_str_split 126 token (lit< tt) c.split.ensures.text c.split.ensures.has_more c.split.ensures.pattern) in
    let slice = c.as_slice.result.now in
    let others = take (length slice - 1) (drop 1 slice) in
    let none : Bor (List ℕ) = record { ref_ptr = (0, 0); now = [] } in
    let whole : slice ≡ get_or slice 0 none ∷ others = first_and_others slice none c.in-len1-up.len_at_least in
    let pushed : string_bytes c.push_str.new.self ≡ (get_or slice 0 none).now = search rules in
    let key : string_bytes c.loop-part.key ≡ string_bytes c.push_str.new.self ++ flat_map after_tilde (map (λ t. t.now) (take c.loop-part.part-index others)) =
    c.loop-part.invariant in
    key ∙ ap₂ (λ p ps. p ++ flat_map after_tilde (map (λ (t : Bor (List ℕ)). t.now) ps)) pushed (take_all c.loop-part.part-index others c.loop-part-test.false)
    ∙ sym (ap (λ (ps : List (Bor (List ℕ))). joined (map (λ t. t.now) ps)) whole)
    ∙ ap (λ (ps : List (Bor (List ℕ))). joined (map (λ t. t.now) ps)) c.as_slice.ensures.value
    ∙ ap joined cut ∙ sym (parts token).0
