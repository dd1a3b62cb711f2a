-- The models of a formula over nodes are the evaluations with which its clauses are met.
use Rattle.std.proofs.Common.{◌≡◌, inl, inr, ℕ, suc, ◌+◌, ◌<◌, ◌≤◌, ◌⊎◌, ◌==◌, ℤ, pos, negsuc, neg_ℤ, Bool, true, false, not, cond, ◌&&◌, ◌||◌, List, [], ◌∷◌, ◌++◌, map, length, refl, sym, ap, ◌∙◌, subst, arith}
use Rattle.std.specs.Bool.{IsTrue}
use Rattle.std.specs.List.{flat_map, list_all}
use Rattle.std.proofs.lemmas.Bool.{and_from, and_parts, cases_eq, cond_both, eq-eqb, or_left, or_right}
use Rattle.std.proofs.lemmas.List.Folds.{list_all-append, list_any-append}
use Rattle.clauses.specs.Literals.{clause_within, clauses_within, is_within, variable_of}
use Rattle.clauses.specs.Models.{Assignment, IsModel, is_true, meets}
use Rattle.gates_theory.specs.Circuits.{same}
use Rattle.gates_theory.proofs.Literals.{true-neg}
use Rattle.gates_theory.proofs.Parts.{conjunction-met, same-from, same-is}
use Rattle.gates_nodes.specs.declared.cover.Cover.{Cover}
use Rattle.gates_nodes.specs.declared.node.Node.{Node}
use Rattle.gates_nodes.specs.declared.node.Node.TheVariants.{Free, And, Lut}
use Rattle.gates_nodes.specs.Clauses.{asked_clauses, asks, evaluated, formula, implied, named, node_clauses, wanted, with_value}
use Rattle.gates_nodes.specs.Makes.{AreSound}
use Rattle.gates_nodes.specs.Nodes.{IsEvaluation, IsExact, Source, any, cover_at, fits_some, node_value, node_within, nodes_hold, nodes_within}
use Rattle.gates_nodes.specs.Tables.{cubes}
use Rattle.gates_nodes.proofs.Cubes.{cubes-value, cubes-within}
use Rattle.gates_nodes.proofs.Evaluations.{any-steady, evaluated-is, with_value-here, with_value-there}
use Rattle.gates_nodes.proofs.Literals.{first_within, or_false, positive, rest_within}
use Rattle.gates_nodes.proofs.Luts.{sides, some_true}
use Rattle.gates_nodes.proofs.Values.{any-evaluation}

-- the clauses of cubes
cube-met : (v : Assignment) (n : ℕ) (cube : List ℤ) → IsTrue (clause_within n cube) → meets v (map neg_ℤ cube) ≡ not (list_all (is_true v) cube)
cube-met v n [] within = refl
cube-met v n (l ∷ cube) within =
    rw (true-neg v l (positive n l (first_within n l cube within)), cube-met v n cube (rest_within n l cube within)) (joined (is_true v l) (list_all (is_true v) cube))
  where
    joined : (a b : Bool) → (not a || not b) ≡ not (a && b)
    joined true b = refl
    joined false b = refl

each_or : (y c r : Bool) → ((y || not c) && (y || not r)) ≡ (y || not (c || r))
each_or true c r = refl
each_or false true r = refl
each_or false false r = refl

implied-met : (v : Assignment) (n : ℕ) (l : ℤ) (cubes : List (List ℤ)) → IsTrue (clauses_within n cubes) → list_all (meets v) (implied l cubes) ≡ (is_true v l || not (some_true v cubes))
implied-met v n l [] within = all_met (is_true v l)
  where
    all_met : (b : Bool) → true ≡ (b || true)
    all_met true = refl
    all_met false = refl
implied-met v n l (cube ∷ cubes) within =
    let parts = and_parts (clause_within n cube) (clauses_within n cubes) within in
    rw (cube-met v n cube parts.0, implied-met v n l cubes parts.1) (each_or (is_true v l) (list_all (is_true v) cube) (some_true v cubes))

two_sides : (y a b : Bool) → a ≡ not b → ((y || not a) && (not y || not b)) ≡ same y a
two_sides true true true e = cc
two_sides true true false e = refl
two_sides true false true e = refl
two_sides true false false e = cc
two_sides false true true e = cc
two_sides false true false e = refl
two_sides false false true e = refl
two_sides false false false e = cc

-- the clauses of a node say that it has its value
pub node-met : (covers : List Cover) (given : ℕ) (v : Assignment) (before : ℕ) (node : Node) → ((number : ℕ) → IsExact (cover_at covers number)) → v (suc given) ≡ true → suc given ≤ before →
    IsTrue (node_within before node) → list_all (meets v) (node_clauses covers given before node) ≡ same (v (suc before)) (node_value covers any v before node)
node-met covers given v before (Free frame bit) exact e few within = sym (same-from (v (suc before)) (v (suc before)) refl)
node-met covers given v before (And first second) exact e few within =
    let parts = and_parts (is_within before first) (is_within before second) within in
    conjunction-met v (pos (suc before)) first second (omega arith) (positive before first parts.0) (positive before second parts.1)
node-met covers given v before (Lut number a b c d) exact e few within =
    let cover = cover_at covers number in
    let literals = a ∷ b ∷ c ∷ d ∷ [] in
    let on = cubes given cover.on literals in
    let off = cubes given cover.off literals in
    let y = v (suc before) in
    list_all-append (meets v) (implied (pos (suc before)) on) (implied (negsuc before) off)
    ∙ rw (
      implied-met v before (pos (suc before)) on (cubes-within before given cover.on literals few within),
      implied-met v before (negsuc before) off (cubes-within before given cover.off literals few within),
    )
    (two_sides y (some_true v on) (some_true v off) (sides v given before cover a b c d (exact number) e few within))
    ∙ ap (same y) (cubes-value v given before cover.on literals e few within)

module _ (covers : List Cover) (given : ℕ) (exact : (number : ℕ) → IsExact (cover_at covers number)) where
  -- an evaluation meets the clauses of all nodes
  asked-met : (v : Assignment) (before : ℕ) (nodes : List Node) (literals : List ℤ) → v (suc given) ≡ true → suc given ≤ before → IsTrue (nodes_within before nodes) →
      IsTrue (nodes_hold covers any v before nodes) → IsTrue (list_all (meets v) (asked_clauses covers given before nodes literals))
  asked-met v before [] literals e few within hold = refl
  asked-met v before (node ∷ nodes) literals e few within hold =
      let names = and_parts (node_within before node) (nodes_within (suc before) nodes) within in
      let parts = and_parts (same (v (suc before)) (node_value covers any v before node)) (nodes_hold covers any v (suc before) nodes) hold in
      let is_asked = asks (wanted (suc before) nodes literals) (suc before) in
      let clauses = node_clauses covers given before node in
      let rest = asked_clauses covers given (suc before) nodes literals in
      let here : IsTrue (list_all (meets v) (cond is_asked clauses [])) =
      cond_both is_asked clauses [] (λ c. IsTrue (list_all (meets v) c)) (λ _. node-met covers given v before node exact e few names.0 ∙ parts.0) (λ _. refl) in
      list_all-append (meets v) rest (cond is_asked clauses [])
      ∙ and_from (list_all (meets v) rest) (list_all (meets v) (cond is_asked clauses []))
      (asked-met v (suc before) nodes literals e (omega arith) names.1 parts.1) here

  -- two assignments agree on what is asked for, and behind so many variables
  abbrev Agree : ℕ → List ℤ → Assignment → Assignment → Type 0
  Agree before literals u v = (k : ℕ) → (before < k) ⊎ IsTrue (asks literals k) → u k ≡ v k

  agree-list : (u v : Assignment) (literals rest : List ℤ) → ((k : ℕ) → IsTrue (asks (literals ++ rest) k) → u k ≡ v k) → map (is_true u) literals ≡ map (is_true v) literals
  agree-list u v [] rest agree = refl
  agree-list u v (l ∷ literals) rest agree =
      let here : is_true u l ≡ is_true v l = by_variable u v l (agree (variable_of l) (or_left (variable_of l == variable_of l) (asks (literals ++ rest) (variable_of l)) (eq-eqb (variable_of l) (variable_of l) refl))) in
      let others = agree-list u v literals rest (λ k wants. agree k (or_right (variable_of l == k) (asks (literals ++ rest) k) wants)) in
      rw (here, others) refl
    where
      by_variable : (u v : Assignment) (l : ℤ) → u (variable_of l) ≡ v (variable_of l) → is_true u l ≡ is_true v l
      by_variable u v (pos n) e = e
      by_variable u v (negsuc n) e = ap not e

  agree-node : (u v : Assignment) (before : ℕ) (node : Node) (rest : List ℤ) → ((k : ℕ) → IsTrue (asks (named node ++ rest) k) → u k ≡ v k) → u (suc before) ≡ v (suc before) →
      node_value covers any u before node ≡ node_value covers any v before node
  agree-node u v before (Free frame bit) rest agree here = here
  agree-node u v before (And first second) rest agree here =
      let both : (is_true u first ∷ is_true u second ∷ []) ≡ (is_true v first ∷ is_true v second ∷ []) = agree-list u v (first ∷ second ∷ []) rest agree in
      let one : is_true u first ≡ is_true v first = cc in
      let two : is_true u second ≡ is_true v second = cc in
      rw (one, two) refl
  agree-node u v before (Lut number a b c d) rest agree here = ap (fits_some (cover_at covers number).on) (agree-list u v (a ∷ b ∷ c ∷ d ∷ []) rest agree)

  -- what is asked of a node's clauses makes the values agree
  agree-next : (u v : Assignment) (before : ℕ) (node : Node) (later : List ℤ) (t : Bool) → asks later (suc before) ≡ t →
      (IsTrue t → v (suc before) ≡ node_value covers any v before node) →
      Agree before (cond t (named node ++ later) later) u v → Agree (suc before) later (with_value u (suc before) (node_value covers any u before node)) v
  agree-next u v before node later t is met agree k (inl above) = with_value-there u (suc before) k (node_value covers any u before node) (λ e. omega arith) ∙ agree k (inl (omega arith))
  agree-next u v before node later true is met agree k (inr wants) = elim (cases_eq k (suc before)) [
    | inl here ↦
        let value = agree-node u v before node later (λ j asked. agree j (inr asked)) (agree (suc before) (inl (omega arith))) in
        subst (λ j. with_value u (suc before) (node_value covers any u before node) j ≡ v j) (sym here)
        (with_value-here u (suc before) (node_value covers any u before node) ∙ value ∙ sym (met refl))
    | inr apart ↦
        with_value-there u (suc before) k (node_value covers any u before node) apart
        ∙ agree k (inr (list_any-append (λ l. variable_of l == k) (named node) later ∙ or_right (asks (named node) k) (asks later k) wants))
  ]
  agree-next u v before node later false is met agree k (inr wants) = elim (cases_eq k (suc before)) [
    | inl here ↦ let asked : asks later (suc before) ≡ true = subst (λ j. asks later j ≡ true) here wants in cc
    | inr apart ↦ with_value-there u (suc before) k (node_value covers any u before node) apart ∙ agree k (inr wants)
  ]

  models-agree : (u v : Assignment) (before : ℕ) (nodes : List Node) (literals : List ℤ) → v (suc given) ≡ true → suc given ≤ before → IsTrue (nodes_within before nodes) →
      IsTrue (list_all (meets v) (asked_clauses covers given before nodes literals)) → Agree before (wanted before nodes literals) u v →
      Agree (before + length nodes) literals (evaluated covers any u before nodes) v
  models-agree u v before [] literals e few within met agree =
      let size : before ≡ before + 0 = omega arith in subst (λ n. Agree n literals u v) size agree
  models-agree u v before (node ∷ nodes) literals e few within met agree =
      let names = and_parts (node_within before node) (nodes_within (suc before) nodes) within in
      let later = wanted (suc before) nodes literals in
      let t = asks later (suc before) in
      let clauses = node_clauses covers given before node in
      let rest = asked_clauses covers given (suc before) nodes literals in
      let parts = and_parts (list_all (meets v) rest) (list_all (meets v) (cond t clauses [])) (sym (list_all-append (meets v) rest (cond t clauses [])) ∙ met) in
      let value = node_value covers any u before node in
      let next = agree-next u v before node later t refl (λ on. same-is (v (suc before)) (node_value covers any v before node)
      (sym (node-met covers given v before node exact e few names.0) ∙ subst (λ b. IsTrue (list_all (meets v) (cond b clauses []))) on parts.1)) agree in
      let all = models-agree (with_value u (suc before) value) v (suc before) nodes literals e (omega arith) names.1 parts.0 next in
      let size : suc before + length nodes ≡ before + length (node ∷ nodes) = omega arith in
      subst (λ n. Agree n literals (evaluated covers any u before (node ∷ nodes)) v) size all

  same-clauses : (w v : Assignment) (clauses : List (List ℤ)) → ((k : ℕ) → IsTrue (asks (flat_map (λ clause. clause) clauses) k) → w k ≡ v k) →
      list_all (meets w) clauses ≡ list_all (meets v) clauses
  same-clauses w v [] agree = refl
  same-clauses w v (clause ∷ clauses) agree =
      let others = flat_map (λ (c : List ℤ). c) clauses in
      let here : meets w clause ≡ meets v clause = any-of w v clause (agree-list w v clause others agree) in
      let rest = same-clauses w v clauses (λ k wants. agree k (list_any-append (λ l. variable_of l == k) clause others ∙ or_right (asks clause k) (asks others k) wants)) in
      rw (here, rest) refl
    where
      any-of : (w v : Assignment) (clause : List ℤ) → map (is_true w) clause ≡ map (is_true v) clause → meets w clause ≡ meets v clause
      any-of w v [] e = refl
      any-of w v (l ∷ clause) e =
          let here : is_true w l ≡ is_true v l = cc in
          let others : map (is_true w) clause ≡ map (is_true v) clause = cc in
          rw (here, any-of w v clause others) refl

  pub model-evaluation : (v : Assignment) (nodes : List Node) (clauses : List (List ℤ)) → AreSound given nodes → IsModel v (formula covers given nodes clauses) →
      IsEvaluation covers given any (evaluated covers any v (suc given) nodes) nodes × IsModel (evaluated covers any v (suc given) nodes) clauses
  model-evaluation v nodes clauses sound model =
      let literals = flat_map (λ (c : List ℤ). c) clauses in
      let asked = asked_clauses covers given (suc given) nodes literals in
      let outer = and_parts (v (suc given) || false) (list_all (meets v) (asked ++ clauses)) model in
      let e : v (suc given) ≡ true = sym (or_false (v (suc given))) ∙ outer.0 in
      let inner = and_parts (list_all (meets v) asked) (list_all (meets v) clauses) (sym (list_all-append (meets v) asked clauses) ∙ outer.1) in
      let w = evaluated covers any v (suc given) nodes in
      let agree = models-agree v v (suc given) nodes literals e (omega arith) sound inner.0 (λ k wants. refl) in
      (evaluated-is covers any given v nodes any-steady sound e, same-clauses w v clauses (λ k wants. agree k (inr wants)) ∙ inner.1)

  -- what the clauses ask for keeps its values
  pub model-kept : (v : Assignment) (nodes : List Node) (clauses : List (List ℤ)) → AreSound given nodes → IsModel v (formula covers given nodes clauses) →
      (k : ℕ) → IsTrue (asks (flat_map (λ (c : List ℤ). c) clauses) k) → evaluated covers any v (suc given) nodes k ≡ v k
  model-kept v nodes clauses sound model k wants =
      let literals = flat_map (λ (c : List ℤ). c) clauses in
      let asked = asked_clauses covers given (suc given) nodes literals in
      let outer = and_parts (v (suc given) || false) (list_all (meets v) (asked ++ clauses)) model in
      let e : v (suc given) ≡ true = sym (or_false (v (suc given))) ∙ outer.0 in
      let inner = and_parts (list_all (meets v) asked) (list_all (meets v) clauses) (sym (list_all-append (meets v) asked clauses) ∙ outer.1) in
      models-agree v v (suc given) nodes literals e (omega arith) sound inner.0 (λ j asked_for. refl) k (inr wants)

  pub evaluation-model : (source : Source) (v : Assignment) (nodes : List Node) (clauses : List (List ℤ)) → AreSound given nodes → IsEvaluation covers given source v nodes → IsModel v clauses →
      IsModel v (formula covers given nodes clauses)
  evaluation-model source v nodes clauses sound is model =
      let literals = flat_map (λ (c : List ℤ). c) clauses in
      let asked = asked_clauses covers given (suc given) nodes literals in
      let own = any-evaluation covers source v given nodes is in
      and_from (v (suc given) || false) (list_all (meets v) (asked ++ clauses)) (or_false (v (suc given)) ∙ is.yes)
      (list_all-append (meets v) asked clauses
      ∙ and_from (list_all (meets v) asked) (list_all (meets v) clauses) (asked-met v (suc given) nodes literals is.yes (omega arith) sound own.hold) model)
