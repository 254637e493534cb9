use Rattle.neldrafi_csv.proofs.ScanLemmas.{value-end, value-more, value-rest}
use Rattle.neldrafi_csv.proofs.scan.push_value.Goals as goal

pub returns-in_default : goal.returns-in_default
returns-in_default c value escaped =
    let (later, left, same) = c.pairs.invariant value escaped in
    value-rest c.args.inside.now _ value _ later c.pairs.at left same c.in_default.ensures _ c.in_ok-extend_from_slice.ensures.items

pub pairs-preserved : goal.pairs-preserved
pairs-preserved c value escaped =
    let (later, left, same) = c.pairs.invariant value escaped in
    value-more c.args.inside.now _ value _ later c.pairs.at c.in-Some.count left same c.in-Some.ensures _ c.in_ok-extend_from_slice-2.ensures.items

pub returns : goal.returns
returns c value escaped =
    let (later, left, same) = c.pairs.invariant value escaped in value-end c.args.inside.now _ value _ later c.pairs.at left same c.pairs-test.false
