-- Tables of at most four inputs as one node.
use Rattle.std.proofs.Common.{◌≡◌, ℕ, suc, ◌≤◌, ℤ, neg_ℤ, Bool, true, not, ◌&&◌, List, [], ◌∷◌, map, Option, None, Some, refl, sym, ap, ◌∙◌, arith}
use Rattle.std.specs.Bool.{IsTrue}
use Rattle.std.specs.List.{list_all, list_any}
use Rattle.std.specs.Option.{IfSome, option_map, option_or}
use Rattle.std.proofs.lemmas.Bool.{and_parts, cond_both, or_right}
use Rattle.clauses.specs.Literals.{clause_within, clauses_within, is_within}
use Rattle.clauses.specs.Models.{Assignment, is_true}
use Rattle.gates_theory.proofs.Literals.{true-neg}
use Rattle.gates_theory.proofs.Within.{negated_within}
use Rattle.gates_nodes.specs.declared.cover.Cover.{Cover}
use Rattle.gates_nodes.specs.declared.node.Node.{Node}
use Rattle.gates_nodes.specs.declared.node.Node.TheVariants.{Lut}
use Rattle.gates_nodes.specs.Makes.{AreSound, Makes}
use Rattle.gates_nodes.specs.Nodes.{IsExact, cover_at, fits_some, no, variables_of, yes}
use Rattle.gates_nodes.specs.Tables.{cubes, is_nil, sole, tabled, told_by, unless_told}
use Rattle.gates_nodes.proofs.Cubes.{cubes-value, cubes-within}
use Rattle.gates_nodes.proofs.Folds.{no-false}
use Rattle.gates_nodes.proofs.Literals.{and_true, no-within, or_false, positive, yes-within}
use Rattle.gates_nodes.proofs.Making.{makes-literal, makes-node}

-- some cube is true
abbrev pub some_true : Assignment → List (List ℤ) → Bool
some_true v cubes = list_any (list_all (is_true v)) cubes

-- an empty cube is
nil-true : (v : Assignment) (cubes : List (List ℤ)) → list_any is_nil cubes ≡ true → some_true v cubes ≡ true
nil-true v [] e = cc
nil-true v ([] ∷ cubes) e = refl
nil-true v ((l ∷ ls) ∷ cubes) e = or_right (list_all (is_true v) (l ∷ ls)) (some_true v cubes) (nil-true v cubes e)

-- one cube of one literal
sole-says : (v : Assignment) (cubes : List (List ℤ)) → IfSome (sole cubes) (λ l. some_true v cubes ≡ is_true v l)
sole-says v [] = tt
sole-says v ([] ∷ []) = tt
sole-says v ((l ∷ []) ∷ []) = or_false (is_true v l && true) ∙ and_true (is_true v l)
sole-says v ((l ∷ m ∷ ls) ∷ []) = tt
sole-says v (c ∷ d ∷ cubes) = tt

sole-within : (n : ℕ) (cubes : List (List ℤ)) → IsTrue (clauses_within n cubes) → IfSome (sole cubes) (λ l. IsTrue (is_within n l))
sole-within n [] within = tt
sole-within n ([] ∷ []) within = tt
sole-within n ((l ∷ []) ∷ []) within =
    let cube = and_parts (clause_within n (l ∷ [])) true within in
    (and_parts (is_within n l) true cube.0).0
sole-within n ((l ∷ m ∷ ls) ∷ []) within = tt
sole-within n (c ∷ d ∷ cubes) within = tt

soles-value : (v : Assignment) (n : ℕ) (a b : Bool) (o p : Option ℤ) → a ≡ not b → IfSome o (λ l. a ≡ is_true v l) → IfSome p (λ l. b ≡ is_true v l) → IfSome p (λ l. IsTrue (is_within n l)) →
    IfSome (option_or o (option_map neg_ℤ p)) (λ l. is_true v l ≡ a)
soles-value v n a b None None e first second within = tt
soles-value v n a b None (Some l) e first second within = true-neg v l (positive n l within) ∙ ap not (sym second) ∙ sym e
soles-value v n a b (Some l) p e first second within = sym first

soles-within : (n : ℕ) (o p : Option ℤ) → IfSome o (λ l. IsTrue (is_within n l)) → IfSome p (λ l. IsTrue (is_within n l)) → IfSome (option_or o (option_map neg_ℤ p)) (λ l. IsTrue (is_within n l))
soles-within n None None first second = tt
soles-within n None (Some l) first second = negated_within n l second
soles-within n (Some l) p first second = first

-- the literal that says what two sides say
told-value : (v : Assignment) (n given : ℕ) (on off : List (List ℤ)) → v (suc given) ≡ true → some_true v on ≡ not (some_true v off) → IsTrue (clauses_within n off) →
    IfSome (told_by given on off) (λ l. is_true v l ≡ some_true v on)
told-value v n given on off e sides within =
    let is : ℤ → Type 0 = λ l. is_true v l ≡ some_true v on in
    let P : Option ℤ → Type 0 = λ o. IfSome o is in
    cond_both (list_any is_nil on) (Some (yes given)) _ P (λ t. e ∙ sym (nil-true v on t))
    (λ _. cond_both (list_any is_nil off) (Some (no given)) _ P (λ t. no-false v given e ∙ sym (sides ∙ ap not (nil-true v off t)))
    (λ _. soles-value v n (some_true v on) (some_true v off) (sole on) (sole off) sides (sole-says v on) (sole-says v off) (sole-within n off within)))

told-within : (n given : ℕ) (on off : List (List ℤ)) → suc given ≤ n → IsTrue (clauses_within n on) → IsTrue (clauses_within n off) → IfSome (told_by given on off) (λ l. IsTrue (is_within n l))
told-within n given on off few first second =
    let is : ℤ → Type 0 = λ l. IsTrue (is_within n l) in
    let P : Option ℤ → Type 0 = λ o. IfSome o is in
    cond_both (list_any is_nil on) (Some (yes given)) _ P (λ _. yes-within n given few)
    (λ _. cond_both (list_any is_nil off) (Some (no given)) _ P (λ _. no-within n given few)
    (λ _. soles-within n (sole on) (sole off) (sole-within n on first) (sole-within n off second)))

-- the two sides of an exact cover
pub sides : (v : Assignment) (given n : ℕ) (cover : Cover) (a b c d : ℤ) → IsExact cover → v (suc given) ≡ true → suc given ≤ n → IsTrue (clause_within n (a ∷ b ∷ c ∷ d ∷ [])) →
    some_true v (cubes given cover.on (a ∷ b ∷ c ∷ d ∷ [])) ≡ not (some_true v (cubes given cover.off (a ∷ b ∷ c ∷ d ∷ [])))
sides v given n cover a b c d exact e few within =
    cubes-value v given n cover.on (a ∷ b ∷ c ∷ d ∷ []) e few within
    ∙ exact.one_side (is_true v a) (is_true v b) (is_true v c) (is_true v d)
    ∙ ap not (sym (cubes-value v given n cover.off (a ∷ b ∷ c ∷ d ∷ []) e few within))

-- what a table says of the values of literals
abbrev pub says : List Cover → ℕ → List ℤ → Assignment → Bool
says covers number literals v = fits_some (cover_at covers number).on (map (is_true v) literals)

module _ (covers : List Cover) (given : ℕ) where
  by_told : (o : Option ℤ) (nodes : List Node) (number : ℕ) (a b c d : ℤ) → AreSound given nodes → IsTrue (clause_within (variables_of given nodes) (a ∷ b ∷ c ∷ d ∷ [])) →
      ((v : Assignment) → v (suc given) ≡ true → IfSome o (λ l. is_true v l ≡ says covers number (a ∷ b ∷ c ∷ d ∷ []) v)) → IfSome o (λ l. IsTrue (is_within (variables_of given nodes) l)) →
      Makes covers given nodes (unless_told given nodes (Lut number a b c d) o) (says covers number (a ∷ b ∷ c ∷ d ∷ []))
  by_told None nodes number a b c d sound within value told =
      makes-node covers given nodes (Lut number a b c d) (says covers number (a ∷ b ∷ c ∷ d ∷ [])) sound within (λ source v before is e. refl)
  by_told (Some l) nodes number a b c d sound within value told =
      makes-literal covers given nodes l (says covers number (a ∷ b ∷ c ∷ d ∷ [])) sound told (λ source v is. value v is.yes)

  pub makes-tabled : (nodes : List Node) (number : ℕ) (a b c d : ℤ) → AreSound given nodes → IsExact (cover_at covers number) → IsTrue (clause_within (variables_of given nodes) (a ∷ b ∷ c ∷ d ∷ [])) →
      Makes covers given nodes (tabled covers given nodes number a b c d) (says covers number (a ∷ b ∷ c ∷ d ∷ []))
  makes-tabled nodes number a b c d sound exact within =
      let n = variables_of given nodes in
      let cover = cover_at covers number in
      let literals = a ∷ b ∷ c ∷ d ∷ [] in
      let on = cubes given cover.on literals in
      let off = cubes given cover.off literals in
      let few : suc given ≤ n = omega arith in
      let off_within = cubes-within n given cover.off literals few within in
      by_told (told_by given on off) nodes number a b c d sound within
      (λ v e. same_if v (told_by given on off) (some_true v on) (says covers number literals v) (cubes-value v given n cover.on literals e few within)
      (told-value v n given on off e (sides v given n cover a b c d exact e few within) off_within))
      (told-within n given on off few (cubes-within n given cover.on literals few within) off_within)
    where
      same_if : (v : Assignment) (o : Option ℤ) (x y : Bool) → x ≡ y → IfSome o (λ l. is_true v l ≡ x) → IfSome o (λ l. is_true v l ≡ y)
      same_if v None x y e holds = tt
      same_if v (Some l) x y e holds = holds ∙ e
