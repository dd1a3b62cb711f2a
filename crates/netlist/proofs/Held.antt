-- The atoms that hold at a place of a run, and its letters.
use Rattle.std.proofs.Common.{◌≡◌, ℕ, ◌+◌, ◌<◌, Bool, true, false, cond, List, [], ◌∷◌, ◌++◌, length, take, get_or, refl, sym, ap, ◌∙◌}
use Rattle.std.specs.Prelude.{filter}
use Rattle.std.specs.List.{range_with_len, flat_map}
use Rattle.std.proofs.lemmas.List.{append-nil, append_assoc, take_more}
use Rattle.std.proofs.lemmas.List.Elements.{filter-append}
use Rattle.std.proofs.lemmas.List.FromFn.{map-range_with_len_more}
use Rattle.std.proofs.lemmas.Grind.{flat_map-append}
use Rattle.psl_tree.specs.declared.atom.Atom.{Atom}
use Rattle.psl_tree.specs.declared.name.Name.{Name}
use Rattle.psl_tree.specs.Letters.{atoms_of_bit, atoms_of_name, atoms_of, letter_at}
use Rattle.psl_tree.specs.Names.{indices}
use Rattle.netlist.specs.Design.{Design}
use Rattle.netlist.specs.Runs.{bits_of, letters_from}
use Rattle.netlist.specs.Sound.{NamesBit}
use Rattle.netlist.specs.declared.run.Run.{Run}

one_atom : (p : Atom → Bool) (atom : Atom) (rest : List Atom) → filter p (atom ∷ rest) ≡ cond (p atom) (atom ∷ []) [] ++ filter p rest
one_atom p atom rest =
    elim (p atom) as (λ b. cond b (atom ∷ filter p rest) (filter p rest) ≡ cond b (atom ∷ []) [] ++ filter p rest) [ true ↦ refl | false ↦ refl ]

-- three atoms, each added where it holds
pub three_atoms : (p : Atom → Bool) (xs : List Atom) (a b c : Atom)
    → xs ++ filter p (a ∷ b ∷ c ∷ []) ≡ xs ++ cond (p a) (a ∷ []) [] ++ cond (p b) (b ∷ []) [] ++ cond (p c) (c ∷ []) []
three_atoms p xs a b c =
    let x = cond (p a) (a ∷ []) [] in
    let y = cond (p b) (b ∷ []) [] in
    let z = cond (p c) (c ∷ []) [] in
    let all : filter p (a ∷ b ∷ c ∷ []) ≡ x ++ (y ++ z) =
    one_atom p a (b ∷ c ∷ []) ∙ ap (λ rest. x ++ rest) (one_atom p b (c ∷ []) ∙ ap (λ rest. y ++ rest) (one_atom p c [] ∙ append-nil z)) in
    ap (λ rest. xs ++ rest) all ∙ sym (append_assoc xs x (y ++ z)) ∙ sym (append_assoc (xs ++ x) y z)

-- the atoms of a name of one bit
atoms-of_bit : (signals : ℕ) (name : Name) → NamesBit signals name → atoms_of_name name ≡ atoms_of_bit name.signal 0
atoms-of_bit signals name names =
    let one : indices name ≡ 1 = rw (names.left, names.right) refl in
    ap (λ n. flat_map (atoms_of_bit name.signal) (range_with_len 0 n)) one ∙ append-nil (atoms_of_bit name.signal 0)

-- the atoms of one name more
pub atoms-more : (p : Atom → Bool) (names : List Name) (place signals : ℕ) (name : Name) (held : List Atom) → place < length names → name ≡ get_or names place name → NamesBit signals name
    → held ≡ filter p (atoms_of (take place names)) → held ++ filter p (atoms_of_bit name.signal 0) ≡ filter p (atoms_of (take (place + 1) names))
atoms-more p names place signals name held within is named before =
    let next = ap (λ some. filter p (atoms_of some)) (take_more names place name within) in
    let here = ap (λ last. filter p (atoms_of (take place names ++ last ∷ []))) (sym is) in
    let split = ap (filter p) (flat_map-append atoms_of_name (take place names) (name ∷ [])) in
    let apart = filter-append p (atoms_of (take place names)) (atoms_of (name ∷ [])) in
    let last : filter p (atoms_of (name ∷ [])) ≡ filter p (atoms_of_bit name.signal 0) =
    ap (filter p) (append-nil (atoms_of_name name) ∙ atoms-of_bit signals name named) in
    sym (next ∙ here ∙ split ∙ apart ∙ ap (λ front. front ++ filter p (atoms_of (name ∷ []))) (sym before) ∙ ap (λ back. held ++ back) last)

-- one letter more
pub letters-more : (design : Design) (run : Run) (first count : ℕ) → letters_from design run first (count + 1) ≡ letters_from design run first count ++ letter_at (bits_of run) design.names (first + count) ∷ []
letters-more design run first count = map-range_with_len_more (letter_at (bits_of run) design.names) first count (first + count) refl
