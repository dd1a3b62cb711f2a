-- How many obligations the part of a formula has.
use Rattle.std.proofs.Common.{ℕ, ◌+◌, ◌≤◌, true, false, length, map, ◌++◌, [], ◌∷◌, arith}
use Rattle.std.proofs.lemmas.List.{length-append, length-map}
use Rattle.psl_tree.specs.Counts.{states_of, obligations_of}
use Rattle.psl_tree.specs.Trees as trees
use Rattle.psl_tree.specs.Trees.{Sequence, Formula, Now, NowStrong, Weak, Strong, Next, Until, Suffix, Abort, SyncAbort, Clocked}
use Rattle.psl_tree.specs.SequenceAutomata.{State}
use Rattle.psl_tree.specs.SequenceConstruction as sequences
use Rattle.psl_tree.specs.SequenceConstruction.{nfa_of}
use Rattle.psl_tree.proofs.SequenceAutomata.{finished-count}
use Rattle.psl_tree.proofs.SequenceMeans as sequence_means
use Rattle.alternating_theory.specs.Construction.{part_of, HasNoClock, prefix_obligation, suffix_obligation, opposite_obligation, with_letter, until_obligation, cut_obligation}
use Rattle.alternating_theory.specs.Obligations.{Obligation}

pub nfa-count : (r : Sequence) → sequences.HasNoClock r → length (nfa_of r).states ≤ states_of r
nfa-count r h = finished-count (sequences.part_of 0 r) r (sequence_means.part-means 0 r h)

-- with its start, at most as many as the formula counts
pub part-count : (offset : ℕ) (f : Formula) → HasNoClock f → length (part_of offset f).rest + 1 ≤ obligations_of f
part-count offset (Now test) h = omega arith
part-count offset (NowStrong test) h = omega arith
part-count offset (Weak r) h =
    let e = length-map (nfa_of r).states (λ (state : State). prefix_obligation (nfa_of r).states offset true state.edges) in omega (arith, e, nfa-count r h)
part-count offset (Strong r) h =
    let e = length-map (nfa_of r).states (λ (state : State). prefix_obligation (nfa_of r).states offset false state.edges) in omega (arith, e, nfa-count r h)
part-count offset (trees.Not f) h = let e = length-map (part_of offset f).rest opposite_obligation in omega (arith, e, part-count offset f h)
part-count offset (trees.And f g) h =
    let e = length-append (part_of offset f).rest (part_of (offset + length (part_of offset f).rest) g).rest in
    omega (arith, e, part-count offset f h.0, part-count (offset + length (part_of offset f).rest) g h.1)
part-count offset (Next f) h =
    let e = length-append (part_of offset f).rest (with_letter (part_of offset f).start ∷ []) in omega (arith, e, part-count offset f h)
part-count offset (Until f g) h =
    let a = part_of offset f in let b = part_of (offset + length (part_of offset f).rest) g in
    let e = length-append a.rest b.rest in
    let k = length-append (a.rest ++ b.rest) (until_obligation (offset + (length a.rest + length b.rest)) a.start b.start ∷ []) in
    omega (arith, e, k, part-count offset f h.0, part-count (offset + length (part_of offset f).rest) g h.1)
part-count offset (Suffix r f) h =
    let a = part_of offset f in
    let step = λ (state : State). suffix_obligation (nfa_of r).states (offset + length a.rest) true a.start state.edges in
    let e = length-map (nfa_of r).states step in
    let k = length-append a.rest (map step (nfa_of r).states) in
    omega (arith, e, k, nfa-count r h.0, part-count offset f h.1)
part-count offset (Abort f test) h =
    let a = part_of offset f in
    let copy = λ (obligation : Obligation). cut_obligation (λ number. number + length a.rest) test obligation in
    let e = length-map a.rest copy in
    let k = length-append a.rest (map copy a.rest) in
    omega (arith, e, k, part-count offset f h)
part-count offset (SyncAbort f test) h = absurd h
part-count offset (Clocked f clock) h = absurd h
