-- A form all of whose parts are weaker is weaker.
use Rattle.std.proofs.Common.{ℕ, Bool, IsTrue, List, inl, inr}
use Rattle.strkw_text.specs.Abnf.{Form, ◌⨾◌, ◌∣◌, Optional, OneOf}

-- a class derives what another does where it has all characters of the other
pub OneOf-weaker : (p q : ℕ → Bool) → ((c : ℕ) → IsTrue (p c) → IsTrue (q c)) → (x : List ℕ) → OneOf p x → OneOf q x
OneOf-weaker p q f x o = record { character = o.character; member = f o.character o.member; is = o.is }

-- A' B' derives each text of A B where A' derives each of A and B' each of B
pub Then-weaker : (A A' B B' : Form) → ((x : List ℕ) → A x → A' x) → ((x : List ℕ) → B x → B' x) → (x : List ℕ) → (A ⨾ B) x → (A' ⨾ B') x
Then-weaker A A' B B' f g x h = record { front = h.front; back = h.back; first = f h.front h.first; second = g h.back h.second; joined = h.joined }

-- A' / B' derives each text of A / B where A' derives each of A and B' each of B
pub Either-weaker : (A A' B B' : Form) → ((x : List ℕ) → A x → A' x) → ((x : List ℕ) → B x → B' x) → (x : List ℕ) → (A ∣ B) x → (A' ∣ B') x
Either-weaker A A' B B' f g x (inl a) = inl (f x a)
Either-weaker A A' B B' f g x (inr b) = inr (g x b)

-- [A'] derives each text of [A] where A' derives each of A
pub Optional-weaker : (A A' : Form) → ((x : List ℕ) → A x → A' x) → (x : List ℕ) → Optional A x → Optional A' x
Optional-weaker A A' f x (inl e) = inl e
Optional-weaker A A' f x (inr a) = inr (f x a)
