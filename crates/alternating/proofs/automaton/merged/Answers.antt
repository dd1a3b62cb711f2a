use Rattle.std.proofs.Common.{◌≡◌, ap, ◌∙◌, List, ℕ, Bool, length, arith}
use Rattle.alternating_theory.proofs.Classes.{classes-long}
use Rattle.alternating.proofs.Built.{obligations-wider}
use Rattle.alternating.proofs.Merging.{start-last, classes-low, merged-made, merged-whole, start-within}
use Rattle.alternating.specs.Views.{obligations_of_code}
use Rattle.alternating.proofs.automaton.merged.Goals as goal

pub classes_of-requires : goal.classes_of-requires
classes_of-requires c = omega (arith, start-last c.args.obligations.now c.args.start c.requires.names)

pub firsts-requires : goal.firsts-requires
firsts-requires c =
    let a : length c.as_slice.result.now ≡ length c.in_ok-classes.classes.items = ap (λ (l : List ℕ). length l) c.as_slice.ensures.value in
    let b = ap (λ (l : List ℕ). length l) c.in_ok-classes.ensures in
    omega (arith, a, b, classes-long (obligations_of_code c.args.obligations.now) c.args.start, start-last c.args.obligations.now c.args.start c.requires.names, c.requires.room)

pub names_of-requires : goal.names_of-requires
names_of-requires c =
    let a : length c.as_slice.result.now ≡ length c.in_ok-classes.classes.items = ap (λ (l : List ℕ). length l) c.as_slice.ensures.value in
    let b = ap (λ (l : List ℕ). length l) c.in_ok-classes.ensures in
    let d : length c.as_slice-2.result.now ≡ length c.in_ok-marks.marks.items = ap (λ (l : List Bool). length l) c.as_slice-2.ensures.value in
    omega (
      arith,
      a,
      b,
      d,
      c.in_ok-marks.ensures.same_length,
      classes-long (obligations_of_code c.args.obligations.now) c.args.start,
      start-last c.args.obligations.now c.args.start c.requires.names,
      c.requires.room,
    )

pub class_names-requires-clause-below : goal.class_names-requires-clause-below
class_names-requires-clause-below c =
    classes-low c.args.obligations.now c.args.start c.requires.names c.as_slice-3.result.now (c.as_slice-3.ensures.value ∙ c.in_ok-classes.ensures)

pub kept-requires-clause-marks : goal.kept-requires-clause-marks
kept-requires-clause-marks c =
    let a : length c.as_slice.result.now ≡ length c.in_ok-classes.classes.items = ap (λ (l : List ℕ). length l) c.as_slice.ensures.value in
    let b = ap (λ (l : List ℕ). length l) c.in_ok-classes.ensures in
    let d : length c.as_slice-5.result.now ≡ length c.in_ok-marks.marks.items = ap (λ (l : List Bool). length l) c.as_slice-5.ensures.value in
    omega (
      arith,
      a,
      b,
      d,
      c.in_ok-marks.ensures.same_length,
      classes-long (obligations_of_code c.args.obligations.now) c.args.start,
      start-last c.args.obligations.now c.args.start c.requires.names,
    )

pub kept-requires-clause-within : goal.kept-requires-clause-within
kept-requires-clause-within c =
    let a : length c.as_slice-3.result.now ≡ length c.in_ok-classes.classes.items = ap (λ (l : List ℕ). length l) c.as_slice-3.ensures.value in
    let b = ap (λ (l : List ℕ). length l) c.in_ok-classes.ensures in
    let d : length c.as_slice-6.result.now ≡ length c.in_ok-new.new.items = ap (λ (l : List ℕ). length l) c.as_slice-6.ensures.value in
    obligations-wider 0 c.args.start 0 (length c.as_slice-6.result.now) (omega arith)
    (omega (arith, a, b, d, c.in_ok-new.ensures.same_length, classes-long (obligations_of_code c.args.obligations.now) c.args.start))
    c.args.obligations.now (start-within c.args.obligations.now c.args.start c.requires.names)

pub index-requires : goal.index-requires
index-requires c =
    let a : length c.as_slice.result.now ≡ length c.in_ok-classes.classes.items = ap (λ (l : List ℕ). length l) c.as_slice.ensures.value in
    let b = ap (λ (l : List ℕ). length l) c.in_ok-classes.ensures in
    let d : length c.as_slice-2.result.now ≡ length c.in_ok-marks.marks.items = ap (λ (l : List Bool). length l) c.as_slice-2.ensures.value in
    omega (arith, a, b, d, c.in_ok-marks.ensures.same_length, c.in_ok-names.ensures.same_length, classes-long (obligations_of_code c.args.obligations.now) c.args.start)

pub invariant_of-result : goal.invariant_of-result
invariant_of-result c =
    let whole = merged-whole c.args.obligations.now c.args.start c.requires.names c.index.result.now c.in_ok-found.found.items c.requires.room
    (merged-made c.args.obligations.now c.args.start c.requires.names c.in_ok-classes.classes.items c.as_slice.result.now c.as_slice-3.result.now
    c.in_ok-marks.marks.items c.as_slice-2.result.now c.as_slice-5.result.now c.in_ok-names.names.items c.as_slice-4.result.now c.in_ok-new.new.items c.as_slice-6.result.now
    c.index.result.now c.in_ok-found.found.items c.in_ok-classes.ensures c.as_slice.ensures.value c.as_slice-3.ensures.value c.in_ok-marks.ensures c.as_slice-2.ensures.value
    c.as_slice-5.ensures.value c.in_ok-names.ensures c.as_slice-4.ensures.value c.in_ok-new.ensures c.as_slice-6.ensures.value c.index.ensures c.in_ok-found.ensures) in
    record { start_below = whole.0; owed_below = whole.1; few = whole.2 }

pub returns : goal.returns
returns c =
    merged-made c.args.obligations.now c.args.start c.requires.names c.in_ok-classes.classes.items c.as_slice.result.now c.as_slice-3.result.now
    c.in_ok-marks.marks.items c.as_slice-2.result.now c.as_slice-5.result.now c.in_ok-names.names.items c.as_slice-4.result.now c.in_ok-new.new.items c.as_slice-6.result.now
    c.index.result.now c.in_ok-found.found.items c.in_ok-classes.ensures c.as_slice.ensures.value c.as_slice-3.ensures.value c.in_ok-marks.ensures c.as_slice-2.ensures.value
    c.as_slice-5.ensures.value c.in_ok-names.ensures c.as_slice-4.ensures.value c.in_ok-new.ensures c.as_slice-6.ensures.value c.index.ensures c.in_ok-found.ensures
