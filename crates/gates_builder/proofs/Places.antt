-- The places of conjunctions among nodes that grow.
use Rattle.std.proofs.Common.{◌≡◌, ℕ, ◌+◌, ◌<◌, ℤ, Bool, true, false, cond, ◌&&◌, List, [], ◌∷◌, ◌++◌, length, Option, None, Some, refl, sym, ap, ◌∙◌, ⊎_elim, arith}
use Rattle.std.specs.List.{position_from}
use Rattle.std.specs.Option.{IfSome}
use Rattle.std.specs.Ordering.{int_cmp, int_eq, is_eq, ordering_then}
use Rattle.std.specs.Cmp.{tied_then}
use Rattle.std.proofs.lemmas.Bool.{and_from, and_parts, cases_Bool}
use Rattle.std.proofs.lemmas.Bool.Decides.{Decides-int_eq}
use Rattle.gates_nodes.specs.declared.node.Node.{Node}
use Rattle.gates_nodes.specs.declared.node.Node.TheVariants.{And}
use Rattle.gates_nodes.specs.Folding.{is_conjunction, place_of}

position_from-failing : (test : Node → Bool) (i : ℕ) (xs : List Node) (x : Node) → test x ≡ false → position_from test i (xs ++ x ∷ []) ≡ position_from test i xs
position_from-failing test i [] x fails = rw fails refl
position_from-failing test i (y ∷ ys) x fails = ap (λ rest. cond (test y) (Some i) rest) (position_from-failing test (i + 1) ys x fails)

by_head : (b : Bool) (i : ℕ) (old new result : Option ℕ) → cond b (Some i) old ≡ None → (old ≡ None → new ≡ result) → cond b (Some i) new ≡ result
by_head true i old new result none next = cc
by_head false i old new result none next = next none

position_from-passing : (test : Node → Bool) (i n : ℕ) (xs : List Node) (x : Node) → n ≡ i + length xs → test x ≡ true → position_from test i xs ≡ None → position_from test i (xs ++ x ∷ []) ≡ Some n
position_from-passing test i n [] x at passes none = rw passes (ap Some (omega arith))
position_from-passing test i n (y ∷ ys) x at passes none =
    by_head (test y) i (position_from test (i + 1) ys) (position_from test (i + 1) (ys ++ x ∷ [])) (Some n) none
    (position_from-passing test (i + 1) n ys x (omega arith) passes)

-- a node that is no conjunction
pub place-other : (nodes : List Node) (node : Node) (first second : ℤ) → is_conjunction first second node ≡ false → place_of first second (nodes ++ node ∷ []) ≡ place_of first second nodes
place-other nodes node first second fails = position_from-failing (is_conjunction first second) 0 nodes node fails

same-test : (a b p q : ℤ) → is_eq (ordering_then (int_cmp a p) (int_cmp b q)) ≡ (int_eq a p && int_eq b q)
same-test a b p q = sym (tied_then (int_cmp a p) (int_cmp b q))

-- one conjunction more
pub place-push : (nodes : List Node) (a b p q : ℤ) (n : ℕ) → n ≡ length nodes → place_of a b nodes ≡ None →
    cond (is_eq (ordering_then (int_cmp a p) (int_cmp b q))) (Some n) (place_of p q nodes) ≡ place_of p q (nodes ++ And a b ∷ [])
place-push nodes a b p q n at none = ap (λ t. cond t (Some n) (place_of p q nodes)) (same-test a b p q) ∙ by_test (int_eq a p && int_eq b q) refl
  where
    by_test : (t : Bool) → (int_eq a p && int_eq b q) ≡ t → cond t (Some n) (place_of p q nodes) ≡ place_of p q (nodes ++ And a b ∷ [])
    by_test true is =
        let parts = and_parts (int_eq a p) (int_eq b q) is in
        let e : a ≡ p = (Decides-int_eq a p).0 parts.0 in
        let bq : b ≡ q = (Decides-int_eq b q).0 parts.1 in
        let passes : is_conjunction p q (And a b) ≡ true = and_from (int_eq p a) (int_eq q b) ((Decides-int_eq p a).1 (sym e)) ((Decides-int_eq q b).1 (sym bq)) in
        let absent : place_of p q nodes ≡ None = ap (λ x. place_of x q nodes) (sym e) ∙ ap (λ x. place_of a x nodes) (sym bq) ∙ none in
        sym (position_from-passing (is_conjunction p q) 0 n nodes (And a b) (omega arith) passes absent)
    by_test false is =
        let fails : is_conjunction p q (And a b) ≡ false = ⊎_elim
        (λ same. let parts = and_parts (int_eq p a) (int_eq q b) same in
        let both : (int_eq a p && int_eq b q) ≡ true =
        and_from (int_eq a p) (int_eq b q) ((Decides-int_eq a p).1 (sym ((Decides-int_eq p a).0 parts.0))) ((Decides-int_eq b q).1 (sym ((Decides-int_eq q b).0 parts.1))) in cc)
        (λ differ. differ) (cases_Bool (int_eq p a && int_eq q b)) in
        sym (place-other nodes (And a b) p q fails)

by_length : (b : Bool) (i n end : ℕ) (later : Option ℕ) → i < end → cond b (Some i) later ≡ Some n → (later ≡ Some n → n < end) → n < end
by_length true i n end later below found next = let same : i ≡ n = cc in omega arith
by_length false i n end later below found next = next found

position_from-high : (test : Node → Bool) (i n end : ℕ) (xs : List Node) → end ≡ i + length xs → position_from test i xs ≡ Some n → n < end
position_from-high test i n end [] at found = absurd (let no : None ≡ Some n = found in cc)
position_from-high test i n end (x ∷ xs) at found =
    by_length (test x) i n end (position_from test (i + 1) xs) (omega arith) found (position_from-high test (i + 1) n end xs (omega arith))

pub place-within : (nodes : List Node) (a b : ℤ) (n : ℕ) → place_of a b nodes ≡ Some n → n < length nodes
place-within nodes a b n found = position_from-high (is_conjunction a b) 0 n (length nodes) nodes (omega arith) found

pub found-within : (nodes : List Node) (a b : ℤ) (found : Option ℕ) → found ≡ place_of a b nodes → IfSome found (λ n. n < length nodes)
found-within nodes a b None is = tt
found-within nodes a b (Some n) is = place-within nodes a b n (sym is)
