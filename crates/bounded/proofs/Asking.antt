-- What the literal says of an obligation, and what the clauses of all obligations at all places say.
use Rattle.std.proofs.Common.{◌≡◌, ℕ, zero, suc, ◌+◌, ◌*◌, ◌<◌, ◌≤◌, ◌==◌, nat_lt, inl, inr, ℤ, neg_ℤ, Bool, true, false, not, ◌&&◌, ◌||◌, cond, List, [], ◌∷◌, ◌++◌, map, fold, length, Option, refl, sym, ap, ◌∙◌, subst, arith, append_assoc}
use Rattle.std.specs.Bool.{IsTrue}
use Rattle.std.specs.List.{list_all, range_with_len}
use Rattle.std.proofs.lemmas.Bool.{and_from, and_parts, both_ways, cases_Bool, cases_eq, lt-ltb, ltb-true, or_cases, or_left, or_right}
use Rattle.std.proofs.lemmas.List.{append-nil}
use Rattle.std.proofs.lemmas.List.Folds.{list_all-append}
use Rattle.alternating_theory.specs.Atoms.{AtomsOfObligations}
use Rattle.alternating_theory.specs.Obligations.{Automaton, obligation_at}
use Rattle.alternating_theory.specs.Positive.{And, Const, Holds, Or, Owed, OwesWithin, Positive, met}
use Rattle.alternating_theory.proofs.Reached.{met-owed, owed-within}
use Rattle.bounded_theory.specs.Numbers.{is_kept, serves}
use Rattle.bounded_theory.specs.Digits.{number_width}
use Rattle.bounded_theory.proofs.Atoms.{atoms-of}
use Rattle.clauses.specs.Literals.{clause_within, clauses_within, is_within, variable_of}
use Rattle.clauses.specs.Models.{Assignment, is_true, meets}
use Rattle.gates_letters.specs.Combinations.{combination_by}
use Rattle.gates_letters.specs.Extending.{Extends}
use Rattle.gates_letters.specs.Letters.{FramesWithin, letter_of}
use Rattle.gates_letters.proofs.CombinationValues.{by-made}
use Rattle.gates_letters.proofs.Growing.{extends-then, more-extends}
use Rattle.gates_letters.proofs.Parts.{frames-wider, made-more}
use Rattle.gates_nodes.specs.declared.cover.Cover.{Cover}
use Rattle.gates_nodes.specs.declared.node.Node.{Node}
use Rattle.gates_nodes.specs.Folding.{Built, conjoined, either}
use Rattle.gates_nodes.specs.Makes.{AreSound, Makes}
use Rattle.gates_nodes.specs.Nodes.{IsEvaluation, Source, no, variables_of, yes}
use Rattle.gates_nodes.proofs.Folds.{makes-no, no-false}
use Rattle.gates_nodes.proofs.Literals.{and_true, no-within, or_false, positive, wider_literal, yes-within}
use Rattle.gates_nodes.proofs.Making.{makes-as, makes-literal, makes-then, names-kept, value-kept}
use Rattle.gates_nodes.proofs.Values.{before-evaluation}
use Rattle.gates_theory.proofs.Literals.{true-neg}
use Rattle.gates_theory.proofs.Sizes.{length-following}
use Rattle.gates_theory.proofs.Within.{both_within, negated_within, wider, wider_all}
use Rattle.psl_tree.specs.Names.{AtomInRange}
use Rattle.psl_tree.specs.declared.name.Name.{Name}
use Rattle.run_terms.specs.Automata.{IsSound}
use Rattle.run_terms.specs.Numbers.{number_of}
use Rattle.run_terms.proofs.NumberValues.{compared}
use Rattle.bounded.specs.Obligations.{Asked, exceeds, falls, literals_before, obligation_built, served, unless_exceeded, with_clause, with_obligation, with_place, with_places}
use Rattle.bounded.specs.Places.{digits_of, number_at, owed_at, place_bits}
use Rattle.bounded.proofs.Blocks.{number-in, owed-in}
use Rattle.bounded.proofs.Exceeding.{and_not, makes-exceeds}

-- only what a combination owes matters
pub same-combination : (before : Option (List ℤ)) (now : List ℤ) (later other : ℕ → List Node → Built) (m : ℕ) → ((r : ℕ) (nodes : List Node) → r < m → later r nodes ≡ other r nodes)
    → (positive : Positive) → OwesWithin 0 m positive → (nodes : List Node) → combination_by 0 before now later positive nodes ≡ combination_by 0 before now other positive nodes
same-combination before now later other m same (Const value) within nodes = refl
same-combination before now later other m same (Holds test) within nodes = refl
same-combination before now later other m same (Owed number) within nodes = same number nodes within.1
same-combination before now later other m same (And left right) within nodes =
    let one = same-combination before now later other m same left within.0 nodes in
    let two = same-combination before now later other m same right within.1 (combination_by 0 before now other left nodes).nodes in
    ap (λ (x : Built). conjoined 0 (combination_by 0 before now later right x.nodes).nodes x.output (combination_by 0 before now later right x.nodes).output) one
    ∙ ap (λ (y : Built). conjoined 0 y.nodes (combination_by 0 before now other left nodes).output y.output) two
same-combination before now later other m same (Or left right) within nodes =
    let one = same-combination before now later other m same left within.0 nodes in
    let two = same-combination before now later other m same right within.1 (combination_by 0 before now other left nodes).nodes in
    ap (λ (x : Built). either 0 (combination_by 0 before now later right x.nodes).nodes x.output (combination_by 0 before now later right x.nodes).output) one
    ∙ ap (λ (y : Built). either 0 y.nodes (combination_by 0 before now other left nodes).output y.output) two

-- what the bits of places say is owed, and the numbers
abbrev pub owed_in : Automaton → ℕ → Assignment → ℕ → ℕ → Bool
owed_in a before v p q = is_true v (owed_at a before p q)

abbrev pub number_in : Automaton → ℕ → Assignment → ℕ → ℕ → ℕ
number_in a before v p q = number_of (map (is_true v) (number_at a before p q))

abbrev pub asks_in : Automaton → ℕ → ℕ → Assignment → ℕ → ℕ → ℕ → Bool
asks_in a n before v p q r = owed_in a before v (suc p) r && serves a (p == n) q (number_in a before v p q) r (number_in a before v (suc p) r)

pub neither : (x y : Bool) → (x || y) ≡ false → (x ≡ false) × (y ≡ false)
neither true y e = absurd (cc)
neither false y e = (refl, e)

not_not : (b : Bool) → not (not b) ≡ b
not_not true = refl
not_not false = refl

module _ (covers : List Cover) (a : Automaton) (frames : ℕ → List ℤ) (n before : ℕ) (names : List Name) (start : List Node)
    (sound : AreSound 0 start) (many : before + (suc (suc n) * place_bits a + n) ≤ variables_of 0 start)
    (framed : (p : ℕ) → p ≤ n → IsTrue (clause_within (variables_of 0 start) (frames p)))
    (good : IsSound a) (tests : AtomsOfObligations (AtomInRange names) a.obligations) where
  abbrev m : ℕ
  m = length a.obligations

  abbrev w : ℕ
  w = number_width m

  abbrev V : ℕ
  V = variables_of 0 start

  falls-value : (p : ℕ) (v : Assignment) → v 1 ≡ true → is_true v (falls n p) ≡ (p == n)
  falls-value p v truth = by (p == n)
    where
      by : (b : Bool) → is_true v (cond b (yes 0) (no 0)) ≡ b
      by true = truth
      by false = no-false v 0 truth

  falls-within : (p k : ℕ) → 1 ≤ k → IsTrue (is_within k (falls n p))
  falls-within p k some = by (p == n)
    where
      by : (b : Bool) → IsTrue (is_within k (cond b (yes 0) (no 0)))
      by true = yes-within k 0 some
      by false = no-within k 0 some

  abbrev accepted : ℕ → ℕ → Bool
  accepted q r = (obligation_at a.obligations q).accepting || (obligation_at a.obligations r).accepting

  module _ (p q : ℕ) (high : p ≤ n) (low : q < m) where
    kept-made : (r : ℕ) → r < m → (nodes : List Node) → AreSound 0 nodes → V ≤ variables_of 0 nodes → accepted q r ≡ false
        → Makes covers 0 nodes (unless_exceeded (owed_at a before (suc p) r) (exceeds (falls n p) (number_at a before (suc p) r) (number_at a before p q) nodes))
        (λ v. owed_in a before v (suc p) r && is_kept (p == n) (number_in a before v p q) (number_in a before v (suc p) r))
    kept-made r below nodes fine order none =
        let k = variables_of 0 nodes in
        let parts = neither (obligation_at a.obligations q).accepting (obligation_at a.obligations r).accepting none in
        let l = owed_at a before (suc p) r in
        let fs = number_at a before (suc p) r in
        let ss = number_at a before p q in
        let sizes : length fs ≡ length ss =
        length-following _ (digits_of w (obligation_at a.obligations r)) ∙ ap (λ b. cond b 0 w) (parts.1 ∙ sym parts.0) ∙ sym (length-following _ (digits_of w (obligation_at a.obligations q))) in
        let built = exceeds (falls n p) fs ss nodes in
        let said = λ (v : Assignment). not (compared (is_true v (falls n p)) (number_of (map (is_true v) fs)) (number_of (map (is_true v) ss))) in
        let made : Makes covers 0 nodes built said =
        makes-exceeds covers fs ss nodes (falls n p) sizes fine (falls-within p k (omega arith))
        (wider V k order fs (number-in a n before V many (suc p) r (omega arith) below)) (wider V k order ss (number-in a n before V many p q (omega arith) low)) in
        let here = wider_literal V k order l (owed-in a n before V many (suc p) r (omega arith) below) in
        let both = λ (v : Assignment). is_true v l && not (is_true v built.output) in
        let whole = unless_exceeded l built in
        let last : Makes covers 0 built.nodes whole both =
        and_not covers built.nodes l built.output made.sound (names-kept covers 0 nodes made.more built.nodes l made.grown here) made.names in
        makes-as covers 0 nodes whole both (λ v. is_true v l && is_kept (p == n) (number_in a before v p q) (number_in a before v (suc p) r))
        (makes-then covers 0 nodes built whole said both made last)
        (λ source v is. ap (λ x. is_true v l && x)
        (ap not (value-kept covers 0 nodes built said last.more whole.nodes made last.grown source v is)
        ∙ not_not (compared (is_true v (falls n p)) (number_of (map (is_true v) fs)) (number_of (map (is_true v) ss)))
        ∙ ap (λ b. compared b (number_of (map (is_true v) fs)) (number_of (map (is_true v) ss))) (falls-value p v is.yes)))

    served-by : (r : ℕ) → r < m → (nodes : List Node) → AreSound 0 nodes → V ≤ variables_of 0 nodes → (b : Bool) → accepted q r ≡ b
        → Makes covers 0 nodes (cond b (record { nodes = nodes; output = owed_at a before (suc p) r })
        (unless_exceeded (owed_at a before (suc p) r) (exceeds (falls n p) (number_at a before (suc p) r) (number_at a before p q) nodes)))
        (λ v. owed_in a before v (suc p) r && (b || is_kept (p == n) (number_in a before v p q) (number_in a before v (suc p) r)))
    served-by r below nodes fine order true is =
        makes-literal covers 0 nodes (owed_at a before (suc p) r) (λ v. owed_in a before v (suc p) r && true) fine
        (wider_literal V (variables_of 0 nodes) order (owed_at a before (suc p) r) (owed-in a n before V many (suc p) r (omega arith) below))
        (λ source v holds. sym (and_true (owed_in a before v (suc p) r)))
    served-by r below nodes fine order false is = kept-made r below nodes fine order is

    served-made : (r : ℕ) → r < m → (nodes : List Node) → AreSound 0 nodes → V ≤ variables_of 0 nodes
        → Makes covers 0 nodes (served a n before p q r nodes) (λ v. asks_in a n before v p q r)
    served-made r below nodes fine order = served-by r below nodes fine order (accepted q r) refl

    -- obligations that there are not are not owed
    abbrev served_or : ℕ → List Node → Built
    served_or r nodes = cond (nat_lt r m) (served a n before p q r nodes) (record { nodes = nodes; output = no 0 })

    abbrev asks_or : ℕ → Assignment → Bool
    asks_or r v = cond (nat_lt r m) (asks_in a n before v p q r) false

    served_or-made : (r : ℕ) (nodes : List Node) → Extends start nodes → AreSound 0 nodes → Makes covers 0 nodes (served_or r nodes) (asks_or r)
    served_or-made r nodes extends fine = by (nat_lt r m) refl
      where
        by : (b : Bool) → nat_lt r m ≡ b → Makes covers 0 nodes (cond b (served a n before p q r nodes) (record { nodes = nodes; output = no 0 })) (λ v. cond b (asks_in a n before v p q r) false)
        by true is = served-made r (ltb-true r m is) nodes fine (more-extends 0 start nodes extends)
        by false is = makes-no covers 0 nodes fine

    abbrev delta : Positive
    delta = (obligation_at a.obligations q).delta

    frames-here : FramesWithin V (literals_before frames p) (frames p)
    frames-here = by p high
      where
        by : (k : ℕ) → k ≤ n → FramesWithin V (literals_before frames k) (frames k)
        by zero few = record { before = tt; now = framed 0 few }
        by (suc k) few = record { before = framed k (omega arith); now = framed (suc k) few }

    -- whether the letter of the values of literals meets what an obligation asks
    abbrev pub is_met : Assignment → Bool
    is_met v = met delta (letter_of names v (literals_before frames p) (frames p)) (asks_in a n before v p q)

    pub obligation-made : (nodes : List Node) → Extends start nodes → AreSound 0 nodes → Makes covers 0 nodes (obligation_built a frames n before p q nodes) is_met
    obligation-made nodes extends fine =
        let few = good.owed q low in
        let same : combination_by 0 (literals_before frames p) (frames p) served_or delta nodes ≡ obligation_built a frames n before p q nodes =
        same-combination (literals_before frames p) (frames p) served_or (served a n before p q) m
        (λ r others below. ap (λ b. cond b (served a n before p q r others) (record { nodes = others; output = no 0 })) (lt-ltb r m below)) delta few nodes in
        let said = λ (v : Assignment). met delta (letter_of names v (literals_before frames p) (frames p)) (λ r. asks_or r v) in
        let made : Makes covers 0 nodes (combination_by 0 (literals_before frames p) (frames p) served_or delta nodes) said =
        by-made covers 0 nodes names (literals_before frames p) (frames p) served_or asks_or delta fine
        (frames-wider V (variables_of 0 nodes) (literals_before frames p) (frames p) (more-extends 0 start nodes extends) frames-here)
        (atoms-of (AtomInRange names) a.obligations tests q low)
        (λ r others further others_sound. served_or-made r others (extends-then start nodes others extends further) others_sound) in
        subst (λ built. Makes covers 0 nodes built is_met) same
        (makes-as covers 0 nodes (combination_by 0 (literals_before frames p) (frames p) served_or delta nodes) said is_met made
        (λ source v is. met-owed delta (letter_of names v (literals_before frames p) (frames p)) (λ r. asks_or r v) (asks_in a n before v p q)
        (λ r o. ap (λ b. cond b (asks_in a n before v p q r) false) (lt-ltb r m (owed-within 0 m delta few r o).1))))

  -- nodes and clauses so far, and what these say
  pub record So (now : Asked) (Says : Assignment → Type 0) : Type 0 where
    pub more : List Node
    pub grown : now.nodes ≡ start ++ more
    pub fine : AreSound 0 now.nodes
    pub within : IsTrue (clauses_within (variables_of 0 now.nodes) now.clauses)
    pub to : (source : Source) (v : Assignment) → IsEvaluation covers 0 source v now.nodes → IsTrue (list_all (meets v) now.clauses) → Says v
    pub back : (source : Source) (v : Assignment) → IsEvaluation covers 0 source v now.nodes → Says v → IsTrue (list_all (meets v) now.clauses)

  so-as : (now : Asked) (Says Other : Assignment → Type 0) → So now Says → ((v : Assignment) → Says v → Other v) → ((v : Assignment) → Other v → Says v) → So now Other
  so-as now Says Other so there here = record {
    more = so.more;
    grown = so.grown;
    fine = so.fine;
    within = so.within;
    to = λ source v is met. there v (so.to source v is met);
    back = λ source v is says. so.back source v is (here v says);
  }

  clause-says : (v : Assignment) (l output : ℤ) → 0 < variable_of l → IsTrue (meets v (neg_ℤ l ∷ output ∷ [])) → IsTrue (is_true v l) → IsTrue (is_true v output)
  clause-says v l output some met on = elim (or_cases (is_true v (neg_ℤ l)) (is_true v output || false) met) [
    | inl off ↦ absurd (both_ways (is_true v l) (not-true (is_true v l) (sym (true-neg v l some) ∙ off)) on)
    | inr rest ↦ sym (or_false (is_true v output)) ∙ rest
  ]
    where
      not-true : (b : Bool) → not b ≡ true → b ≡ false
      not-true true e = sym e
      not-true false e = refl

  says-clause : (v : Assignment) (l output : ℤ) → 0 < variable_of l → (IsTrue (is_true v l) → IsTrue (is_true v output)) → IsTrue (meets v (neg_ℤ l ∷ output ∷ []))
  says-clause v l output some says = elim (cases_Bool (is_true v l)) [
    | inl on ↦ or_right (is_true v (neg_ℤ l)) (is_true v output || false) (or_left (is_true v output) false (says on))
    | inr off ↦ or_left (is_true v (neg_ℤ l)) (is_true v output || false) (true-neg v l some ∙ ap not off)
  ]

  so-clause : (now : Asked) (Says : Assignment → Type 0) (l : ℤ) (built : Built) (meaning : Assignment → Bool) → So now Says → IsTrue (is_within V l) → Makes covers 0 now.nodes built meaning
      → So (with_clause now l built) (λ v. Says v × (IsTrue (is_true v l) → IsTrue (meaning v)))
  so-clause now Says l built meaning so within made =
      let few : variables_of 0 now.nodes ≤ variables_of 0 built.nodes = made-more covers 0 now.nodes built meaning made in
      let order : V ≤ variables_of 0 built.nodes = omega (arith, few, more-extends 0 start now.nodes (record { more = so.more; is = so.grown })) in
      let some = positive V l within in
      let clause = neg_ℤ l ∷ built.output ∷ [] in
      record {
        more = so.more ++ made.more;
        grown = made.grown ∙ ap (λ x. x ++ made.more) so.grown ∙ append_assoc start so.more made.more;
        fine = made.sound;
        within = both_within (variables_of 0 built.nodes) now.clauses (clause ∷ [])
            (wider_all (variables_of 0 now.nodes) (variables_of 0 built.nodes) few now.clauses so.within)
            (and_from (clause_within (variables_of 0 built.nodes) clause) true
            (and_from (is_within (variables_of 0 built.nodes) (neg_ℤ l)) (is_within (variables_of 0 built.nodes) built.output && true)
            (negated_within (variables_of 0 built.nodes) l (wider_literal V (variables_of 0 built.nodes) order l within))
            (and_from (is_within (variables_of 0 built.nodes) built.output) true made.names refl)) refl);
        to = λ source v is met.
            let parts = and_parts (list_all (meets v) now.clauses) (list_all (meets v) (clause ∷ [])) (sym (list_all-append (meets v) now.clauses (clause ∷ [])) ∙ met) in
            let here = (and_parts (meets v clause) true parts.1).0 in (
              so.to source v (before-evaluation covers source v 0 now.nodes made.more (subst (IsEvaluation covers 0 source v) made.grown is)) parts.0,
              λ on. sym (made.value source v is) ∙ clause-says v l built.output some here on,
            );
        back = λ source v is says.
            list_all-append (meets v) now.clauses (clause ∷ [])
            ∙ and_from (list_all (meets v) now.clauses) (list_all (meets v) (clause ∷ []))
            (so.back source v (before-evaluation covers source v 0 now.nodes made.more (subst (IsEvaluation covers 0 source v) made.grown is)) says.0)
            (and_from (meets v clause) true (says-clause v l built.output some (λ on. made.value source v is ∙ says.1 on)) refl);
      }

  -- one thing for each number in order
  so-fold : (step : Asked → ℕ → Asked) (Q : ℕ → Assignment → Type 0) (bound : ℕ)
      → ((now : Asked) (Says : Assignment → Type 0) (i : ℕ) → i < bound → So now Says → So (step now i) (λ v. Says v × Q i v))
      → (count first : ℕ) → first + count ≤ bound → (now : Asked) (Says : Assignment → Type 0) → So now Says
      → So (fold step now (range_with_len first count)) (λ v. Says v × ((i : ℕ) → first ≤ i → i < first + count → Q i v))
  so-fold step Q bound steps zero first few now Says so = so-as now Says (λ v. Says v × ((i : ℕ) → first ≤ i → i < first + 0 → Q i v)) so
      (λ v says. (says, λ i above below. absurd (omega arith))) (λ v says. says.0)
  so-fold step Q bound steps (suc count) first few now Says so =
      let rest = so-fold step Q bound steps count (first + 1) (omega arith) (step now first) (λ v. Says v × Q first v) (steps now Says first (omega arith) so) in
      so-as (fold step (step now first) (range_with_len (first + 1) count))
      (λ v. (Says v × Q first v) × ((i : ℕ) → first + 1 ≤ i → i < first + 1 + count → Q i v))
      (λ v. Says v × ((i : ℕ) → first ≤ i → i < first + suc count → Q i v)) rest
      (λ v says. (
        says.0.0,
        λ i above below. elim (cases_eq first i) [
          | inl same ↦ subst (λ k. Q k v) same says.0.1
          | inr other ↦ says.1 i (omega (arith, other)) (omega arith)
        ],
      ))
      (λ v says. ((says.0, says.1 first (omega arith) (omega arith)), λ i above below. says.1 i (omega arith) (omega arith)))

  -- what is owed is met
  abbrev pub IsMetAt : ℕ → ℕ → Assignment → Type 0
  IsMetAt p q v = (high : p ≤ n) (low : q < m) → IsTrue (owed_in a before v p q) → IsTrue (is_met p q high low v)

  so-obligation : (p : ℕ) → p ≤ n → (now : Asked) (Says : Assignment → Type 0) (q : ℕ) → q < m → So now Says → So (with_obligation a frames n before p now q) (λ v. Says v × IsMetAt p q v)
  so-obligation p high now Says q low so =
      so-as (with_obligation a frames n before p now q) (λ v. Says v × (IsTrue (owed_in a before v p q) → IsTrue (is_met p q high low v))) (λ v. Says v × IsMetAt p q v)
      (so-clause now Says (owed_at a before p q) (obligation_built a frames n before p q now.nodes) (is_met p q high low) so
      (owed-in a n before V many p q (omega arith) low)
      (obligation-made p q high low now.nodes (record { more = so.more; is = so.grown }) so.fine))
      (λ v says. (says.0, λ _ _ on. says.1 on)) (λ v says. (says.0, says.1 high low))

  so-place : (now : Asked) (Says : Assignment → Type 0) (p : ℕ) → p < suc n → So now Says
      → So (with_place a frames n before now p) (λ v. Says v × ((q : ℕ) → 0 ≤ q → q < 0 + m → IsMetAt p q v))
  so-place now Says p high so =
      so-fold (with_obligation a frames n before p) (IsMetAt p) m (λ later Before q low so_far. so-obligation p (omega arith) later Before q low so_far) m 0 (omega arith) now Says so

  abbrev pub AllMet : Assignment → Type 0
  AllMet v = (p q : ℕ) → IsMetAt p q v

  pub so-places : So (with_places a frames n before start) AllMet
  so-places =
      let none : So (record { nodes = start; clauses = [] }) (λ v. Unit {0}) = record {
        more = [];
        grown = sym (append-nil start);
        fine = sound;
        within = refl;
        to = λ source v is met. tt;
        back = λ source v is says. refl;
      } in
      so-as (with_places a frames n before start)
      (λ v. Unit {0} × ((p : ℕ) → 0 ≤ p → p < 0 + suc n → (q : ℕ) → 0 ≤ q → q < 0 + m → IsMetAt p q v)) AllMet
      (so-fold (with_place a frames n before) (λ p v. (q : ℕ) → 0 ≤ q → q < 0 + m → IsMetAt p q v) (suc n) so-place (suc n) 0 (omega arith)
      (record { nodes = start; clauses = [] }) (λ v. Unit {0}) none)
      (λ v says p q high low. says.1 p (omega arith) (omega arith) q (omega arith) (omega arith) high low)
      (λ v says. (tt, λ p above below q q_above q_below. says p q))
