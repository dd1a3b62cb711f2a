-- The atoms that an automaton tests are those of its formula.
use Rattle.std.proofs.Common.{ℕ, zero, suc, ◌+◌, Bool as Truth, true, false, if◌then◌else◌, Option, None, Some, List, [], ◌∷◌, ◌++◌, map, length}
use Rattle.std.specs.Prelude.{IsTrue}
use Rattle.psl_tree.specs.Atoms.{AtomsOfBoolean, AtomsOfSequence, AtomsOfFormula}
use Rattle.psl_tree.specs.Trees as trees
use Rattle.psl_tree.specs.Trees.{Boolean, Sequence, Formula, Now, NowStrong, Weak, Strong, Next, Until, Suffix, Abort, SyncAbort, Clocked}
use Rattle.psl_tree.specs.declared.atom.Atom.{Atom}
use Rattle.psl_tree.specs.SequenceAutomata.{Edge, State, state_at}
use Rattle.psl_tree.specs.SequenceConstruction as sequences
use Rattle.psl_tree.specs.SequenceConstruction.{Draft, either_of, both_of, joined, narrowed, narrowed_by, fused, edge_pair, edge_pairs, state_pair, state_pairs, again, star_part, is_repetition, nfa_of}
use Rattle.alternating_theory.specs.Literals.{is_unnegated, bare, negated}
use Rattle.alternating_theory.specs.Construction.{Part, part_of, opposite_obligation, with_letter, until_obligation, cut_obligation, taken, going, quiet, prefix_obligation, suffix_obligation}
use Rattle.alternating_theory.specs.Going.{edges_of_all, entry, goes_on}
use Rattle.alternating_theory.specs.Obligations.{Obligation, Automaton}
use Rattle.alternating_theory.specs.Positive.{Positive, Const, Holds, Owed, And, Or, renumbered, opposite}
use Rattle.alternating_theory.specs.Trimmed.{kept, renumbered_obligation, is_reached, count_below}
use Rattle.alternating_theory.specs.Built.{built, unmerged}
use Rattle.alternating_theory.specs.Merged.{class_in, classes_upto, fits, is_first, merged_by}
use Rattle.alternating_theory.specs.Merged as merging
use Rattle.alternating_theory.specs.Atoms.{AtomsOfPositive, AtomsOfObligations, KeepsAtoms}

-- sequences

abbrev EdgesHave : (Atom → Type 0) → List Edge → Type 0
EdgesHave P [] = Unit {0}
EdgesHave P (e ∷ es) = AtomsOfBoolean P e.label × EdgesHave P es

abbrev EndingHas : (Atom → Type 0) → Option Boolean → Type 0
EndingHas P None = Unit {0}
EndingHas P (Some b) = AtomsOfBoolean P b

abbrev DraftHas : (Atom → Type 0) → Draft → Type 0
DraftHas P d = EdgesHave P d.edges × EndingHas P d.ending

abbrev DraftsHave : (Atom → Type 0) → List Draft → Type 0
DraftsHave P [] = Unit {0}
DraftsHave P (d ∷ ds) = DraftHas P d × DraftsHave P ds

abbrev SequencePartHas : (Atom → Type 0) → sequences.Part → Type 0
SequencePartHas P part = DraftHas P part.start × DraftsHave P part.states

abbrev StatesHave : (Atom → Type 0) → List State → Type 0
StatesHave P [] = Unit {0}
StatesHave P (s ∷ ss) = EdgesHave P s.edges × StatesHave P ss

module _ (P : Atom → Type 0) where
  edges-append : (es fs : List Edge) → EdgesHave P es → EdgesHave P fs → EdgesHave P (es ++ fs)
  edges-append [] fs t u = u
  edges-append (e ∷ es) fs t u = (t.0, edges-append es fs t.1 u)

  drafts-append : (ds es : List Draft) → DraftsHave P ds → DraftsHave P es → DraftsHave P (ds ++ es)
  drafts-append [] es t u = u
  drafts-append (d ∷ ds) es t u = (t.0, drafts-append ds es t.1 u)

  drafts-map : (f : Draft → Draft) → ((d : Draft) → DraftHas P d → DraftHas P (f d)) → (ds : List Draft) → DraftsHave P ds → DraftsHave P (map f ds)
  drafts-map f k [] t = tt
  drafts-map f k (d ∷ ds) t = (k d t.0, drafts-map f k ds t.1)

  if-edges : (b : Truth) (es : List Edge) → EdgesHave P es → EdgesHave P (if b then es else [])
  if-edges true es t = t
  if-edges false es t = tt

  if-ending : (b : Truth) (e : Option Boolean) → EndingHas P e → EndingHas P (if b then e else None)
  if-ending true e t = t
  if-ending false e t = tt

  either-has : (a b : Option Boolean) → EndingHas P a → EndingHas P b → EndingHas P (either_of a b)
  either-has None b t u = u
  either-has (Some a) None t u = t
  either-has (Some a) (Some b) t u = (t, u)

  both-has : (a b : Option Boolean) → EndingHas P a → EndingHas P b → EndingHas P (both_of a b)
  both-has None b t u = tt
  both-has (Some a) None t u = tt
  both-has (Some a) (Some b) t u = (t, u)

  joined-has : (next draft : Draft) → DraftHas P next → DraftHas P draft → DraftHas P (joined next draft)
  joined-has next draft t u = (
    edges-append draft.edges (if draft.is_final then next.edges else []) u.0 (if-edges draft.is_final next.edges t.0),
    either-has (if next.is_final then draft.ending else None) (if draft.is_final then next.ending else None)
        (if-ending next.is_final draft.ending u.1) (if-ending draft.is_final next.ending t.1),
  )

  narrowed-map : (b : Boolean) → AtomsOfBoolean P b → (es : List Edge) → EdgesHave P es → EdgesHave P (map (λ edge. narrowed b edge) es)
  narrowed-map b t [] u = tt
  narrowed-map b t (e ∷ es) u = ((t, u.0), narrowed-map b t es u.1)

  narrowed-has : (b : Option Boolean) → EndingHas P b → (es : List Edge) → EdgesHave P es → EdgesHave P (narrowed_by b es)
  narrowed-has None t es u = tt
  narrowed-has (Some b) t es u = narrowed-map b t es u

  fused-has : (next draft : Draft) → DraftHas P next → DraftHas P draft → DraftHas P (fused next draft)
  fused-has next draft t u = (
    edges-append draft.edges (narrowed_by draft.ending next.edges) u.0 (narrowed-has draft.ending u.1 next.edges t.0),
    both-has draft.ending next.ending u.1 t.1,
  )

  pair-row : (o w : ℕ) (e : Edge) → AtomsOfBoolean P e.label → (fs : List Edge) → EdgesHave P fs → EdgesHave P (map (λ second. edge_pair o w e second) fs)
  pair-row o w e t [] u = tt
  pair-row o w e t (f ∷ fs) u = ((t, u.0), pair-row o w e t fs u.1)

  pairs-have : (o w : ℕ) (es fs : List Edge) → EdgesHave P es → EdgesHave P fs → EdgesHave P (edge_pairs o w es fs)
  pairs-have o w [] fs t u = tt
  pairs-have o w (e ∷ es) fs t u =
      edges-append (map (λ second. edge_pair o w e second) fs) (edge_pairs o w es fs) (pair-row o w e t.0 fs u) (pairs-have o w es fs t.1 u)

  state_pair-has : (o w : ℕ) (d e : Draft) → DraftHas P d → DraftHas P e → DraftHas P (state_pair o w d e)
  state_pair-has o w d e t u = (pairs-have o w d.edges e.edges t.0 u.0, both-has d.ending e.ending t.1 u.1)

  state_row-has : (o w : ℕ) (d : Draft) → DraftHas P d → (es : List Draft) → DraftsHave P es → DraftsHave P (map (λ second. state_pair o w d second) es)
  state_row-has o w d t [] u = tt
  state_row-has o w d t (e ∷ es) u = (state_pair-has o w d e t u.0, state_row-has o w d t es u.1)

  state_pairs-have : (o w : ℕ) (ds es : List Draft) → DraftsHave P ds → DraftsHave P es → DraftsHave P (state_pairs o w ds es)
  state_pairs-have o w [] es t u = tt
  state_pairs-have o w (d ∷ ds) es t u =
      drafts-append (map (λ second. state_pair o w d second) es) (state_pairs o w ds es) (state_row-has o w d t.0 es u) (state_pairs-have o w ds es t.1 u)

  star-has : (part : sequences.Part) → SequencePartHas P part → SequencePartHas P (star_part part)
  star-has part t = (t.0, drafts-map (λ state. joined (again part.start) state) (λ d u. joined-has (again part.start) d t.0 u) part.states t.1)

  repeated-has : (b : Truth) (part : sequences.Part) → SequencePartHas P part → SequencePartHas P (if b then part else star_part part)
  repeated-has true part t = t
  repeated-has false part t = star-has part t

  sequence-has : (offset : ℕ) (r : Sequence) → AtomsOfSequence P r → SequencePartHas P (sequences.part_of offset r)
  sequence-has offset trees.Empty t = ((tt, tt), tt)
  sequence-has offset (trees.One b) t = (((t, tt), t), ((tt, tt), tt))
  sequence-has offset (trees.Concat r s) t =
      let a = sequences.part_of offset r in let b = sequences.part_of (offset + length a.states) s in
      let u = sequence-has offset r t.0 in let v = sequence-has (offset + length (sequences.part_of offset r).states) s t.1 in (
        joined-has b.start a.start v.0 u.0,
        drafts-append (map (λ state. joined b.start state) a.states) b.states
            (drafts-map (λ state. joined b.start state) (λ d w. joined-has b.start d v.0 w) a.states u.1) v.1,
      )
  sequence-has offset (trees.Fuse r s) t =
      let a = sequences.part_of offset r in let b = sequences.part_of (offset + length a.states) s in
      let u = sequence-has offset r t.0 in let v = sequence-has (offset + length (sequences.part_of offset r).states) s t.1 in (
        fused-has b.start a.start v.0 u.0,
        drafts-append (map (λ state. fused b.start state) a.states) b.states
            (drafts-map (λ state. fused b.start state) (λ d w. fused-has b.start d v.0 w) a.states u.1) v.1,
      )
  sequence-has offset (trees.Either r s) t =
      let a = sequences.part_of offset r in let b = sequences.part_of (offset + length a.states) s in
      let u = sequence-has offset r t.0 in let v = sequence-has (offset + length (sequences.part_of offset r).states) s t.1 in
      ((edges-append a.start.edges b.start.edges u.0.0 v.0.0, either-has a.start.ending b.start.ending u.0.1 v.0.1), drafts-append a.states b.states u.1 v.1)
  sequence-has offset (trees.Both r s) t =
      let a = sequences.part_of 0 r in let b = sequences.part_of 0 s in
      let u = sequence-has 0 r t.0 in let v = sequence-has 0 s t.1 in
      (state_pair-has offset (length b.states) a.start b.start u.0 v.0, state_pairs-have offset (length b.states) a.states b.states u.1 v.1)
  sequence-has offset (trees.Star r) t = repeated-has (is_repetition r) (sequences.part_of offset r) (sequence-has offset r t)
  sequence-has offset (trees.Clocked r b) t = sequence-has offset r t.0

  shown-have : (ds : List Draft) (d : Draft) → DraftsHave P ds → DraftHas P d → StatesHave P (map (λ state. sequences.shown state) ds ++ sequences.shown d ∷ [])
  shown-have [] d t u = (u.0, tt)
  shown-have (e ∷ ds) d t u = (t.0.0, shown-have ds d t.1 u)

  states-have : (r : Sequence) → AtomsOfSequence P r → StatesHave P (nfa_of r).states
  states-have r t = let u = sequence-has 0 r t in shown-have (sequences.part_of 0 r).states (sequences.part_of 0 r).start u.1 u.0

  state-has : (ss : List State) (q : ℕ) → StatesHave P ss → EdgesHave P (state_at ss q).edges
  state-has [] q t = tt
  state-has (s ∷ ss) zero t = t.0
  state-has (s ∷ ss) (suc q) t = state-has ss q t.1

  all-have : (ss : List State) (ns : List ℕ) → StatesHave P ss → EdgesHave P (edges_of_all ss ns)
  all-have ss [] t = tt
  all-have ss (n ∷ ns) t = edges-append (state_at ss n).edges (edges_of_all ss ns) (state-has ss n t) (all-have ss ns t)

  -- obligations

  if-positive : (b : Truth) (p q : Positive) → AtomsOfPositive P p → AtomsOfPositive P q → AtomsOfPositive P (if b then p else q)
  if-positive true p q t u = t
  if-positive false p q t u = u

  taken-has : (ss : List State) (offset : ℕ) (es : List Edge) → EdgesHave P es → AtomsOfPositive P (taken ss offset es)
  taken-has ss offset [] t = tt
  taken-has ss offset (e ∷ es) t =
      let others = taken ss offset es in
      let u = taken-has ss offset es t.1 in
      if-positive (state_at ss e.target).is_final (Or (Holds e.label) others)
      (if goes_on ss (state_at ss e.target).edges then Or (And (Holds e.label) (Owed (offset + e.target))) others else others) (t.0, u)
      (if-positive (goes_on ss (state_at ss e.target).edges) (Or (And (Holds e.label) (Owed (offset + e.target))) others) others ((t.0, tt), u) u)

  going-has : (ss : List State) (offset : ℕ) (es : List Edge) → EdgesHave P es → AtomsOfPositive P (going ss offset es)
  going-has ss offset [] t = tt
  going-has ss offset (e ∷ es) t =
      let others = going ss offset es in
      let u = going-has ss offset es t.1 in
      if-positive (goes_on ss (state_at ss e.target).edges) (And (Or (Holds (trees.Not e.label)) (Owed (offset + e.target))) others) others ((t.0, tt), u) u

  quiet-has : (ss : List State) (es : List Edge) → EdgesHave P es → AtomsOfPositive P (quiet ss es)
  quiet-has ss [] t = tt
  quiet-has ss (e ∷ es) t =
      let others = quiet ss es in
      let u = quiet-has ss es t.1 in
      if-positive (state_at ss e.target).is_final (And (Holds (trees.Not e.label)) others) others (t.0, u) u

  bare-has : (b : Boolean) → AtomsOfBoolean P b → AtomsOfBoolean P (bare b)
  bare-has (trees.Const v) t = t
  bare-has (trees.Test a) t = t
  bare-has (trees.Not b) t = bare-has b t
  bare-has (trees.And b c) t = t
  bare-has (trees.Or b c) t = t

  negated-has : (b : Boolean) → AtomsOfBoolean P b → AtomsOfBoolean P (negated b)
  negated-has b t = at (is_unnegated b)
    where
      at : (u : Truth) → AtomsOfBoolean P (if u then trees.Not (bare b) else bare b)
      at true = bare-has b t
      at false = bare-has b t

  opposite-has : (p : Positive) → AtomsOfPositive P p → AtomsOfPositive P (opposite p)
  opposite-has (Const v) t = tt
  opposite-has (Holds b) t = negated-has b t
  opposite-has (Owed q) t = tt
  opposite-has (And p r) t = (opposite-has p t.0, opposite-has r t.1)
  opposite-has (Or p r) t = (opposite-has p t.0, opposite-has r t.1)

  renumbered-has : (new : ℕ → ℕ) (p : Positive) → AtomsOfPositive P p → AtomsOfPositive P (renumbered new p)
  renumbered-has new (Const v) t = tt
  renumbered-has new (Holds b) t = t
  renumbered-has new (Owed q) t = tt
  renumbered-has new (And p r) t = (renumbered-has new p t.0, renumbered-has new r t.1)
  renumbered-has new (Or p r) t = (renumbered-has new p t.0, renumbered-has new r t.1)

  obligations-append : (os ps : List Obligation) → AtomsOfObligations P os → AtomsOfObligations P ps → AtomsOfObligations P (os ++ ps)
  obligations-append [] ps t u = u
  obligations-append (o ∷ os) ps t u = (t.0, obligations-append os ps t.1 u)

  obligations-map : (f : Obligation → Obligation) → ((o : Obligation) → AtomsOfPositive P o.delta → AtomsOfPositive P (f o).delta) → (os : List Obligation)
      → AtomsOfObligations P os → AtomsOfObligations P (map f os)
  obligations-map f k [] t = tt
  obligations-map f k (o ∷ os) t = (k o t.0, obligations-map f k os t.1)

  states-map : (f : State → Obligation) → ((s : State) → EdgesHave P s.edges → AtomsOfPositive P (f s).delta) → (ss : List State) → StatesHave P ss → AtomsOfObligations P (map f ss)
  states-map f k [] t = tt
  states-map f k (s ∷ ss) t = (k s t.0, states-map f k ss t.1)

abbrev PartHas : (Atom → Type 0) → Part → Type 0
PartHas P part = AtomsOfPositive P part.start.delta × AtomsOfObligations P part.rest

module _ (P : Atom → Type 0) where
  prefix-has : (offset : ℕ) (end : Truth) (r : Sequence) → AtomsOfSequence P r
      → AtomsOfPositive P (taken (nfa_of r).states offset (entry (nfa_of r))) × AtomsOfObligations P (map (λ state. prefix_obligation (nfa_of r).states offset end state.edges) (nfa_of r).states)
  prefix-has offset end r t =
      let ss = (nfa_of r).states in
      let u = states-have P r t in (
        taken-has P ss offset (entry (nfa_of r)) (all-have P ss (nfa_of r).initial u),
        states-map P (λ state. prefix_obligation ss offset end state.edges) (λ s v. taken-has P ss offset s.edges v) ss u,
      )

  suffix-delta : (ss : List State) (offset : ℕ) (accepting : Truth) (o : Obligation) → AtomsOfPositive P o.delta → (es : List Edge) → EdgesHave P es
      → AtomsOfPositive P (suffix_obligation ss offset accepting o es).delta
  suffix-delta ss offset accepting o t es u = (going-has P ss offset es u, (quiet-has P ss es u, t))

  cut-has : (new : ℕ → ℕ) (b : Boolean) → AtomsOfBoolean P b → (o : Obligation) → AtomsOfPositive P o.delta → AtomsOfPositive P (cut_obligation new b o).delta
  cut-has new b t o u = ((t, tt), renumbered-has P new o.delta u)

  abort-has : (b : Boolean) → AtomsOfBoolean P b → (part : Part) → PartHas P part
      → AtomsOfPositive P (Or part.start.delta (cut_obligation (λ number. number + length part.rest) b part.start).delta)
      × AtomsOfObligations P (part.rest ++ map (λ obligation. cut_obligation (λ number. number + length part.rest) b obligation) part.rest)
  abort-has b t part u = (
    (u.0, cut-has (λ number. number + length part.rest) b t part.start u.0),
    obligations-append P part.rest (map (λ obligation. cut_obligation (λ number. number + length part.rest) b obligation) part.rest) u.1
        (obligations-map P (λ obligation. cut_obligation (λ number. number + length part.rest) b obligation) (λ o v. cut-has (λ number. number + length part.rest) b t o v) part.rest u.1),
  )

  part-has : (offset : ℕ) (f : Formula) → AtomsOfFormula P f → PartHas P (part_of offset f)
  part-has offset (Now b) t = (t, tt)
  part-has offset (NowStrong b) t = (t, tt)
  part-has offset (Weak r) t = prefix-has offset true r t
  part-has offset (Strong r) t = prefix-has offset false r t
  part-has offset (trees.Not f) t =
      let a = part_of offset f in let u = part-has offset f t in
      (opposite-has P a.start.delta u.0, obligations-map P opposite_obligation (λ o v. opposite-has P o.delta v) a.rest u.1)
  part-has offset (trees.And f g) t =
      let a = part_of offset f in let b = part_of (offset + length a.rest) g in
      let u = part-has offset f t.0 in let v = part-has (offset + length (part_of offset f).rest) g t.1 in
      ((u.0, v.0), obligations-append P a.rest b.rest u.1 v.1)
  part-has offset (Next f) t =
      let a = part_of offset f in let u = part-has offset f t in
      (tt, obligations-append P a.rest (with_letter a.start ∷ []) u.1 (u.0, tt))
  part-has offset (Until f g) t =
      let a = part_of offset f in let b = part_of (offset + length a.rest) g in
      let u = part-has offset f t.0 in let v = part-has (offset + length (part_of offset f).rest) g t.1 in
      let number = offset + (length a.rest + length b.rest) in
      ((v.0, (u.0, tt)), obligations-append P (a.rest ++ b.rest) (until_obligation number a.start b.start ∷ []) (obligations-append P a.rest b.rest u.1 v.1) ((v.0, (u.0, tt)), tt))
  part-has offset (Suffix r f) t =
      let a = part_of offset f in let u = part-has offset f t.1 in
      let ss = (nfa_of r).states in let w = states-have P r t.0 in
      let from = offset + length a.rest in (
        suffix-delta ss from false a.start u.0 (entry (nfa_of r)) (all-have P ss (nfa_of r).initial w),
        obligations-append P a.rest (map (λ state. suffix_obligation ss from true a.start state.edges) ss) u.1
            (states-map P (λ state. suffix_obligation ss from true a.start state.edges) (λ s v. suffix-delta ss from true a.start u.0 s.edges v) ss w),
      )
  part-has offset (Abort f b) t = abort-has b t.1 (part_of offset f) (part-has offset f t.0)
  part-has offset (SyncAbort f b) t = abort-has b t.1 (part_of offset f) (part-has offset f t.0)
  part-has offset (Clocked f b) t = part-has offset f t.0

  kept-has : (keep : ℕ → Truth) (os : List Obligation) → AtomsOfObligations P os → AtomsOfObligations P (kept keep os)
  kept-has keep [] t = tt
  kept-has keep (o ∷ os) t = at (keep zero) (kept-has (λ number. keep (suc number)) os t.1)
    where
      at : (b : Truth) → AtomsOfObligations P (kept (λ number. keep (suc number)) os) → AtomsOfObligations P ((if b then o ∷ [] else []) ++ kept (λ number. keep (suc number)) os)
      at true u = (t.0, u)
      at false u = u

unmerged-has : (P : Atom → Type 0) (f : Formula) → AtomsOfFormula P f → AtomsOfObligations P (unmerged f).obligations
unmerged-has P f t =
    let part = part_of 0 f in
    let u = part-has P 0 f t in
    let os = part.rest ++ part.start ∷ [] in
    obligations-map P (λ obligation. renumbered_obligation (λ number. count_below number (is_reached os (length part.rest))) obligation)
    (λ o v. renumbered-has P (λ number. count_below number (is_reached os (length part.rest))) o.delta v)
    (kept (is_reached os (length part.rest)) os)
    (kept-has P (is_reached os (length part.rest)) os (obligations-append P part.rest (part.start ∷ []) u.1 (u.0, tt)))

-- merging keeps some of the obligations, with other numbers
merged-has : (P : Atom → Type 0) (a : Automaton) (class : ℕ → ℕ) → AtomsOfObligations P a.obligations → AtomsOfObligations P (merged_by class a).obligations
merged-has P a class u = at (fits a class)
  where
    at : (b : Truth) → AtomsOfObligations P (if b then merging.joined a class else a).obligations
    at true = obligations-map P (λ obligation. renumbered_obligation (λ number. count_below (class number) (is_first class)) obligation)
        (λ o v. renumbered-has P (λ number. count_below (class number) (is_first class)) o.delta v)
        (kept (is_first class) a.obligations) (kept-has P (is_first class) a.obligations u)
    at false = u

-- each atom of the automaton has what all atoms of the formula have
pub built-has : (P : Atom → Type 0) (f : Formula) → AtomsOfFormula P f → AtomsOfObligations P (built f).obligations
built-has P f t = merged-has P (unmerged f) (class_in (classes_upto (unmerged f).obligations (unmerged f).start)) (unmerged-has P f t)

pub keeps-atoms : (f : Formula) → KeepsAtoms (built f) f
keeps-atoms f test t = built-has (λ atom. IsTrue (test atom)) f t
