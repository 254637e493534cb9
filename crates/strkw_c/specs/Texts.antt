-- Texts that stand one after the other in one run of bytes.
use Rattle.std.specs.Prelude.{◌≡◌, ℕ, ◌+◌, List, [], ◌∷◌, ◌++◌, length}
use Rattle.std.specs.List.{concat}
use Rattle.strkw_c.specs.declared.texts.Ends.{Ends}
use Rattle.strkw_c.specs.declared.texts.Ends.TheVariants.{Wide, Narrow}

-- where texts end that stand one after the other from a start
abbrev pub ends_from : ℕ → List (List ℕ) → List ℕ
ends_from start [] = []
ends_from start (text ∷ texts) = (start + length text) ∷ ends_from (start + length text) texts

-- these texts stand one after the other in the bytes from a start on, and these are their ends
abbrev pub AreTextsFrom : ℕ → List ℕ → List ℕ → List (List ℕ) → Type 0
AreTextsFrom start bytes ends texts = (front : List ℕ) × (rest : List ℕ) × (length front ≡ start)
    × (bytes ≡ front ++ (concat texts ++ rest)) × (ends ≡ ends_from start texts)

-- they stand at the head of the bytes
abbrev pub AreTexts : List ℕ → List ℕ → List (List ℕ) → Type 0
AreTexts = AreTextsFrom 0

-- each of them begins at one of these offsets and ends at the next, as the strings of Apache Arrow
-- do (Columnar Format, "Variable-size Binary Layout")
abbrev pub AreTextsBetween : List ℕ → List ℕ → List (List ℕ) → Type 0
AreTextsBetween bytes [] texts = ⊥
AreTextsBetween bytes (start ∷ ends) texts = AreTextsFrom start bytes ends texts

-- there are such texts, and as many as there is room for verdicts on them
abbrev pub HaveRoomFrom : ℕ → List ℕ → List ℕ → ℕ → Type 0
HaveRoomFrom start bytes ends room =
    (length ends ≡ room) × ((texts : List (List ℕ)) × AreTextsFrom start bytes ends texts)

abbrev pub HaveRoom : List ℕ → List ℕ → ℕ → Type 0
HaveRoom = HaveRoomFrom 0

abbrev pub HaveRoomBetween : List ℕ → List ℕ → ℕ → Type 0
HaveRoomBetween bytes [] room = ⊥
HaveRoomBetween bytes (start ∷ ends) room = HaveRoomFrom start bytes ends room

-- ends as numbers, however wide they are
abbrev pub numbers : Ends → List ℕ
numbers (Wide ends) = ends.now
numbers (Narrow ends) = ends.now
