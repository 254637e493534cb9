use Rattle.std.proofs.Common.{◌∷◌, [], inl, inr, refl}
use Rattle.strkw_uri.specs.declared.part.Part.TheVariants.{RegNameChar, UserinfoChar, PathChar, SegmentNcChar, QueryChar, FragmentChar}
use Rattle.strkw_uri.proofs.AsciiRuns.{table_is}
use Rattle.strkw_uri.proofs.part.long_run.Goals as goal

pub run-requires : goal.run-requires
run-requires c = table_is (168 ∷ 252 ∷ 248 ∷ 248 ∷ 252 ∷ 248 ∷ 252 ∷ 252 ∷ 252 ∷ 252 ∷ 244 ∷ 92 ∷ 84 ∷ 92 ∷ 212 ∷ 112 ∷ []) RegNameChar c.args.part
    c.in-RegNameChar.is refl

pub run-requires-in-UserinfoChar : goal.run-requires-in-UserinfoChar
run-requires-in-UserinfoChar c = table_is (168 ∷ 252 ∷ 248 ∷ 248 ∷ 252 ∷ 248 ∷ 252 ∷ 252 ∷ 252 ∷ 252 ∷ 252 ∷ 92 ∷ 84 ∷ 92 ∷ 212 ∷ 112 ∷ []) UserinfoChar
    c.args.part c.in-UserinfoChar.is refl

pub run-requires-in-PathChar : goal.run-requires-in-PathChar
run-requires-in-PathChar c = table_is (184 ∷ 252 ∷ 248 ∷ 248 ∷ 252 ∷ 248 ∷ 252 ∷ 252 ∷ 252 ∷ 252 ∷ 252 ∷ 92 ∷ 84 ∷ 92 ∷ 212 ∷ 116 ∷ []) PathChar c.args.part
    c.in-PathChar.is refl

pub run-requires-in-SegmentNcChar : goal.run-requires-in-SegmentNcChar
run-requires-in-SegmentNcChar c = table_is (184 ∷ 252 ∷ 248 ∷ 248 ∷ 252 ∷ 248 ∷ 252 ∷ 252 ∷ 252 ∷ 252 ∷ 244 ∷ 92 ∷ 84 ∷ 92 ∷ 212 ∷ 112 ∷ []) SegmentNcChar
    c.args.part c.in-SegmentNcChar.is refl

pub run-requires-in-QueryChar : goal.run-requires-in-QueryChar
run-requires-in-QueryChar c =
    let table = 184 ∷ 252 ∷ 248 ∷ 248 ∷ 252 ∷ 248 ∷ 252 ∷ 252 ∷ 252 ∷ 252 ∷ 252 ∷ 92 ∷ 84 ∷ 92 ∷ 212 ∷ 124 ∷ [] in
    elim c.in-QueryChar.is [
      | inl query ↦ table_is table QueryChar c.args.part query refl
      | inr fragment ↦ table_is table FragmentChar c.args.part fragment refl
    ]
