use Rattle.std.proofs.Common.{◌≡◌, List, ℕ, Bool, ap, arith, length}
use Rattle.std.proofs.lemmas.List.{length-map}
use Rattle.alternating.specs.Views.{obligation_of}
use Rattle.alternating.proofs.Built.{obligations-wider}
use Rattle.alternating.proofs.Trims.{trimmed-made, trimmed-whole}
use Rattle.alternating.proofs.automaton.trimmed.Goals as goal

pub reached_marks-requires-clause-within : goal.reached_marks-requires-clause-within
reached_marks-requires-clause-within c =
    obligations-wider 0 c.args.start 0 (length c.args.obligations.now) (omega arith) (omega (arith, c.requires.last)) c.args.obligations.now c.requires.within

pub names_of-requires : goal.names_of-requires
names_of-requires c =
    omega (arith, c.requires.room, c.as_slice.ensures.value, c.in_ok-marks.ensures.same_length, length-map c.args.obligations.now obligation_of)

pub kept-requires-clause-within : goal.kept-requires-clause-within
kept-requires-clause-within c =
    let many : length c.as_slice-3.result.now ≡ length c.in_ok-names.names.items = ap (λ (l : List ℕ). length l) c.as_slice-3.ensures.value in
    let marks : length c.as_slice.result.now ≡ length c.in_ok-marks.marks.items = ap (λ (l : List Bool). length l) c.as_slice.ensures.value in
    obligations-wider 0 c.args.start 0 (length c.as_slice-3.result.now) (omega arith)
    (omega (arith, many, marks, c.in_ok-names.ensures.same_length, c.in_ok-marks.ensures.same_length, length-map c.args.obligations.now obligation_of, c.requires.last))
    c.args.obligations.now c.requires.within

pub invariant_of-result : goal.invariant_of-result
invariant_of-result c =
    let whole = trimmed-whole c.args.obligations.now c.args.start c.requires.within c.requires.last c.index.result.now c.in_ok-found.found.items c.requires.room
    (trimmed-made c.args.obligations.now c.args.start c.requires.within c.requires.last c.in_ok-marks.marks.items c.as_slice.result.now c.as_slice-2.result.now
    c.in_ok-names.names.items c.as_slice-3.result.now c.index.result.now c.in_ok-found.found.items c.in_ok-marks.ensures c.as_slice.ensures.value c.as_slice-2.ensures.value
    c.in_ok-names.ensures c.as_slice-3.ensures.value c.index.ensures c.in_ok-found.ensures) in
    record { start_below = whole.0; owed_below = whole.1; few = whole.2 }

pub returns : goal.returns
returns c =
    trimmed-made c.args.obligations.now c.args.start c.requires.within c.requires.last c.in_ok-marks.marks.items c.as_slice.result.now c.as_slice-2.result.now
    c.in_ok-names.names.items c.as_slice-3.result.now c.index.result.now c.in_ok-found.found.items c.in_ok-marks.ensures c.as_slice.ensures.value c.as_slice-2.ensures.value
    c.in_ok-names.ensures c.as_slice-3.ensures.value c.index.ensures c.in_ok-found.ensures
