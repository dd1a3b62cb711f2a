-- r!, r and r |-> f.
use Rattle.std.proofs.Common.{◌≡◌, refl, sym, ap, ◌∙◌, subst, ℕ, zero, suc, ◌+◌, ◌-◌, ◌≤◌, ◌<◌, Bool as Truth, true, false, List, [], ◌∷◌, ◌++◌, length, map, arith}
use Rattle.std.specs.Prelude.{◌↔◌, IsTrue, Option, None, Some, is_some}
use Rattle.std.specs.List.{AllByRecursion}
use Rattle.std.proofs.lemmas.Bool.{both_ways}
use Rattle.std.proofs.lemmas.List.{length-append, length-map}
use Rattle.std.proofs.lemmas.List.Elements.{recursion_from_All}
use Rattle.psl_tree.specs.Followed.{Past, Nothing, Tops, Bottoms, followed}
use Rattle.psl_tree.specs.Satisfaction.{Sat, HasTightPrefix}
use Rattle.psl_tree.specs.Tight.{Tight}
use Rattle.psl_tree.specs.Trace.{Trace, suffix, first, dual, joined, is_place, cut}
use Rattle.psl_tree.proofs.Choice.{exists-same, iff-trans}
use Rattle.psl_tree.proofs.Traces.{zero-below}
use Rattle.psl_tree.specs.Trees.{Sequence, Formula, Weak, Strong, Suffix}
use Rattle.psl_tree.specs.declared.letter.Letter.{Letter}
use Rattle.psl_tree.specs.SequenceAutomata.{Edge, State, state_at, LeadsWithin}
use Rattle.psl_tree.specs.SequenceConstruction as sequences
use Rattle.psl_tree.specs.SequenceConstruction.{nfa_of}
use Rattle.psl_tree.proofs.SequenceAutomata.{finished-accepts, finished-sound}
use Rattle.psl_tree.proofs.SequenceMeans.{part-means}
use Rattle.alternating_theory.specs.Construction.{Part, prefix_part, prefix_obligation, suffix_part, suffix_obligation}
use Rattle.alternating_theory.specs.Going.{edges_of_all, entry}
use Rattle.alternating_theory.specs.Obligations.{Obligation, obligation_at, numbered, value_of}
use Rattle.alternating_theory.proofs.Edges.{On, LeadBelow, entry-accepts, accepts-entry}
use Rattle.alternating_theory.proofs.Parts.{start_value, end_of, IsRight, IsPartOf, part-closed}
use Rattle.alternating_theory.proofs.Prefixes.{prefix-right, strong-means, weak-means}
use Rattle.alternating_theory.proofs.Reading.{Reads, begins}
use Rattle.alternating_theory.proofs.Suffixes.{suffix-right, suffix-value, follows-means, Follows, dual-place}
use Rattle.alternating_theory.proofs.Values.{Right, EachRight, right-wider, each-wider, each-append, agree, in-front, in-back}

-- the automaton of a sequence leads among its states, and accepts what the sequence describes

leads-below : (n : ℕ) (es : List Edge) → AllByRecursion (λ (edge : Edge). (0 ≤ edge.target) × (edge.target < n)) es → LeadBelow n es
leads-below n [] a = tt
leads-below n (e ∷ es) a = (a.0.1, leads-below n es a.1)

pub within-below : (n : ℕ) (es : List Edge) → LeadsWithin 0 n es → LeadBelow n es
within-below n es w = leads-below n es (recursion_from_All (λ (edge : Edge). (0 ≤ edge.target) × (edge.target < n)) es w)

append-below : (n : ℕ) (es fs : List Edge) → LeadBelow n es → LeadBelow n fs → LeadBelow n (es ++ fs)
append-below n [] fs v w = w
append-below n (e ∷ es) fs v w = (v.0, append-below n es fs v.1 w)

pub nfa-below : (r : Sequence) → sequences.HasNoClock r → (q : ℕ) → LeadBelow (length (nfa_of r).states) (state_at (nfa_of r).states q).edges
nfa-below r h q = within-below (length (nfa_of r).states) (state_at (nfa_of r).states q).edges ((finished-sound (sequences.part_of 0 r) r (part-means 0 r h)).targets_below q)

pub all-below : (states : List State) (n : ℕ) → ((q : ℕ) → LeadBelow n (state_at states q).edges) → (ns : List ℕ) → LeadBelow n (edges_of_all states ns)
all-below states n b [] = tt
all-below states n b (m ∷ ns) = append-below n (state_at states m).edges (edges_of_all states ns) (b m) (all-below states n b ns)

pub entry-below : (r : Sequence) → sequences.HasNoClock r → LeadBelow (length (nfa_of r).states) (entry (nfa_of r))
entry-below r h = all-below (nfa_of r).states (length (nfa_of r).states) (nfa-below r h) (nfa_of r).initial

pub on-tight : (r : Sequence) → sequences.HasNoClock r → (v : Trace) (j : ℕ) → IsTrue (is_place v 0) → On (nfa_of r).states (entry (nfa_of r)) (first (suc j) v) ↔ Tight None r (first (suc j) v)
on-tight r h v j p = at (v 0) p
  where
    at : (o : Option Letter) → IsTrue (is_some o) → On (nfa_of r).states (entry (nfa_of r)) (joined o (first j (suffix v 1))) ↔ Tight None r (joined o (first j (suffix v 1)))
    at None e = absurd (both_ways false refl e)
    at (Some y) e =
        let same = finished-accepts (sequences.part_of 0 r) r (part-means 0 r h) (y ∷ first j (suffix v 1)) in
        (λ k. same.0 (entry-accepts (nfa_of r) y (first j (suffix v 1)) k), λ k. accepts-entry (nfa_of r) y (first j (suffix v 1)) (same.1 k))

pub reads-tight : (r : Sequence) → sequences.HasNoClock r → (v : Trace) → ((i : ℕ) → IsTrue (is_place v i) → IsTrue (is_place v 0))
    → Reads (nfa_of r).states v (entry (nfa_of r)) ↔ HasTightPrefix v r None
reads-tight r h v starts = exists-same (λ j. (λ u. (u.0, (on-tight r h v j (starts j u.0)).0 u.1), λ u. (u.0, (on-tight r h v j (starts j u.0)).1 u.1)))

cut-begins : (xs : List Letter) (p : Past) (j : ℕ) → IsTrue (is_place (followed xs p) j) → IsTrue (is_place (cut (followed xs p) (suc j)) 0)
cut-begins xs p j h = rw (zero-below j) (begins xs p j h)

-- one obligation for each state

pub at-states : (g : State → Obligation) (ss : List State) (k : ℕ) → k < length ss → obligation_at (map g ss) k ≡ g (state_at ss k)
at-states g [] k h = absurd (omega arith)
at-states g (s ∷ ss) zero h = refl
at-states g (s ∷ ss) (suc k) h = at-states g ss k (omega arith)

pub placed-at : (g : State → Obligation) (offset : ℕ) (ss : List State) (q : ℕ) → q < length ss → numbered offset (map g ss) (offset + q) ≡ g (state_at ss q)
placed-at g offset ss q h = ap (λ n. obligation_at (map g ss) n) (back-again offset q) ∙ at-states g ss q h
  where
    back-again : (m n : ℕ) → m + n - m ≡ n
    back-again m n = omega arith

each-state : (look : ℕ → Obligation) (low high n : ℕ) (g : State → Obligation) → ((s : State) → LeadBelow n s.edges → Right look low high (g s))
    → (ss : List State) → ((q : ℕ) → LeadBelow n (state_at ss q).edges) → EachRight look low high (map g ss)
each-state look low high n g k [] b = tt
each-state look low high n g k (s ∷ ss) b = (k s (b 0), each-state look low high n g k ss (λ q. b (suc q)))

module _ (offset : ℕ) (end : Truth) (r : Sequence) (h : sequences.HasNoClock r) where
  abbrev states : List State
  states = (nfa_of r).states

  abbrev over : State → Obligation
  over = λ state. prefix_obligation (nfa_of r).states offset end state.edges

  abbrev pub prefix-look : ℕ → Obligation
  prefix-look = numbered offset (map (λ (state : State). prefix_obligation (nfa_of r).states offset end state.edges) (nfa_of r).states)

  pub prefix-placed : (q : ℕ) → q < length (nfa_of r).states → prefix-look (offset + q) ≡ prefix_obligation (nfa_of r).states offset end (state_at (nfa_of r).states q).edges
  prefix-placed q l = placed-at over offset states q l

  pub prefix-is_right : IsRight offset (prefix_part offset end (nfa_of r))
  prefix-is_right =
      let many : length (map over states) ≡ length states = length-map states over in
      record {
        start = subst (λ (n : ℕ). Right prefix-look offset (offset + n) (prefix_obligation states offset end (entry (nfa_of r)))) (sym many)
            (prefix-right states (nfa-below r h) offset end prefix-look prefix-placed (entry (nfa_of r)) (entry-below r h));
        rest = subst (λ (n : ℕ). EachRight prefix-look offset (offset + n) (map over states)) (sym many)
            (each-state prefix-look offset (offset + length states) (length states) over
            (λ s w. prefix-right states (nfa-below r h) offset end prefix-look prefix-placed s.edges w) states (nfa-below r h));
      }

pub strong-is : (offset : ℕ) (r : Sequence) → sequences.HasNoClock r → IsPartOf offset (prefix_part offset false (nfa_of r)) (Strong r)
strong-is offset r h = record {
  right = prefix-is_right offset false r h;
  means = λ p xs. iff-trans
      (strong-means (nfa_of r).states (nfa-below r h) offset (prefix-look offset false r h) (prefix-placed offset false r h) xs p (entry (nfa_of r)) (entry-below r h))
      (reads-tight r h (followed xs p) (begins xs p));
}

pub weak-is : (offset : ℕ) (r : Sequence) → sequences.HasNoClock r → IsPartOf offset (prefix_part offset true (nfa_of r)) (Weak r)
weak-is offset r h = record {
  right = prefix-is_right offset true r h;
  means = λ p xs. iff-trans
      (weak-means (nfa_of r).states (nfa-below r h) offset (prefix-look offset true r h) (prefix-placed offset true r h) xs p (entry (nfa_of r)) (entry-below r h)) (
        λ k j l. (reads-tight r h (cut (followed xs p) (suc j)) (λ i _. cut-begins xs p j l)).0 (k j l),
        λ k j l. (reads-tight r h (cut (followed xs p) (suc j)) (λ i _. cut-begins xs p j l)).1 (k j l),
      );
}

module _ (offset : ℕ) (r : Sequence) (h : sequences.HasNoClock r) (a : Part) (right : IsRight offset a) where
  abbrev stage : ℕ
  stage = offset + length a.rest

  abbrev step : State → Obligation
  step = λ state. suffix_obligation (nfa_of r).states (offset + length a.rest) true a.start state.edges

  abbrev all : List Obligation
  all = a.rest ++ map step (nfa_of r).states

  abbrev look : ℕ → Obligation
  look = numbered offset (a.rest ++ map step (nfa_of r).states)

  abbrev high : ℕ
  high = offset + length (a.rest ++ map step (nfa_of r).states)

  total : length (a.rest ++ map step (nfa_of r).states) ≡ length a.rest + length (nfa_of r).states
  total = length-append a.rest (map step (nfa_of r).states) ∙ ap (λ n. length a.rest + n) (length-map (nfa_of r).states step)

  front-same : (q : ℕ) → offset ≤ q → q < end_of offset a → look q ≡ numbered offset a.rest q
  front-same q l k = in-front offset a.rest (map step (nfa_of r).states) q l k

  step-placed : (q : ℕ) → q < length (nfa_of r).states → look (stage + q) ≡ suffix_obligation (nfa_of r).states stage true a.start (state_at (nfa_of r).states q).edges
  step-placed q l = in-back offset a.rest (map step (nfa_of r).states) (stage + q) (omega arith) ∙ placed-at step stage (nfa_of r).states q l

  part-right : Right look offset high a.start
  part-right = right-wider (numbered offset a.rest) look offset (end_of offset a) offset high (omega arith) (omega (arith, total)) front-same a.start right.start

  over-right : (es : List Edge) → LeadBelow (length (nfa_of r).states) es → (begun : Truth) → Right look offset high (suffix_obligation (nfa_of r).states stage begun a.start es)
  over-right es w begun = suffix-right (nfa_of r).states (nfa-below r h) stage true look a.start step-placed offset high (omega arith) (omega (arith, total)) es w begun part-right

  suffix-is_right : IsRight offset (suffix_part offset (nfa_of r) a)
  suffix-is_right = record {
    start = over-right (entry (nfa_of r)) (entry-below r h) false;
    rest = each-append look offset high a.rest (map step (nfa_of r).states)
        (each-wider (numbered offset a.rest) look offset (end_of offset a) offset high (omega arith) (omega (arith, total)) front-same a.rest right.rest)
        (each-state look offset high (length (nfa_of r).states) step (λ s w. over-right s.edges w true) (nfa_of r).states (nfa-below r h));
  }

  -- whether it may be owed for ever plays no part on finite words
  start-same : (p : Past) (xs : List Letter) → start_value offset (suffix_part offset (nfa_of r) a) p xs
      ≡ suffix-value (nfa_of r).states (nfa-below r h) stage true look a.start step-placed p (entry (nfa_of r)) xs
  start-same Nothing [] = refl
  start-same Tops [] = refl
  start-same Bottoms [] = refl
  start-same p (x ∷ xs) = refl

  part-value : (p : Past) (xs : List Letter) → value_of look p a.start xs ≡ start_value offset a p xs
  part-value p xs = agree offset (end_of offset a) (numbered offset a.rest) look (part-closed offset a right) front-same p a.start right.start.within xs

pub suffix-is : (offset : ℕ) (r : Sequence) → sequences.HasNoClock r → (a : Part) (f : Formula) → IsPartOf offset a f → IsPartOf offset (suffix_part offset (nfa_of r) a) (Suffix r f)
suffix-is offset r h a f part = record { right = suffix-is_right offset r h a part.right; means = λ p xs. means p xs }
  where
    inner : (p : Past) (xs : List Letter) → IsTrue (value_of (look offset r h a part.right) p a.start xs) ↔ Sat (followed xs p) f None
    inner p xs = subst (λ (t : Truth). IsTrue t ↔ Sat (followed xs p) f None) (sym (part-value offset r h a part.right p xs)) (part.means p xs)

    follows : (p : Past) (xs : List Letter) → IsTrue (start_value offset (suffix_part offset (nfa_of r) a) p xs)
        ↔ Follows (nfa_of r).states (nfa-below r h) (stage offset r h a part.right) true (look offset r h a part.right) a.start (step-placed offset r h a part.right)
        (λ w. Sat w f None) inner (followed xs p) (entry (nfa_of r))
    follows p xs = subst (λ (t : Truth). IsTrue t
        ↔ Follows (nfa_of r).states (nfa-below r h) (stage offset r h a part.right) true (look offset r h a part.right) a.start (step-placed offset r h a part.right)
        (λ w. Sat w f None) inner (followed xs p) (entry (nfa_of r)))
        (sym (start-same offset r h a part.right p xs))
        (follows-means (nfa_of r).states (nfa-below r h) (stage offset r h a part.right) true (look offset r h a part.right) a.start (step-placed offset r h a part.right)
        (λ w. Sat w f None) inner xs p (entry (nfa_of r)) (entry-below r h))

    means : (p : Past) (xs : List Letter) → IsTrue (start_value offset (suffix_part offset (nfa_of r) a) p xs) ↔ Sat (followed xs p) (Suffix r f) None
    means p xs = iff-trans (follows p xs) (
      λ k j l t. k j l ((on-tight r h (dual (followed xs p)) j (dual-place xs p j l)).1 t),
      λ k j l t. k j l ((on-tight r h (dual (followed xs p)) j (dual-place xs p j l)).0 t),
    )
