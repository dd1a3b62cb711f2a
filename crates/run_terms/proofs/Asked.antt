-- A test of an atom in range, where just those atoms hold that pass some test of their own.
use Rattle.std.proofs.Common.{◌≡◌, ℕ, ◌<◌, Bool, true, false, ◌&&◌, ◌||◌, cond, eqb, List, [], ◌∷◌, get_or, refl, sym, ap, ◌∙◌, arith}
use Rattle.std.proofs.lemmas.Bool.{and_parts, eqb-true, eq-eqb}
use Rattle.std.proofs.lemmas.List.Folds.{list_any-append, list_any_at}
use Rattle.std.proofs.lemmas.List.FromFn.{length-range_with_len, get_or-range_with_len}
use Rattle.std.specs.List.{filter, list_any, flat_map, range_with_len}
use Rattle.psl_tree.specs.declared.atom.Atom.{Atom}
use Rattle.psl_tree.specs.declared.atom.Edge.{Edge}
use Rattle.psl_tree.specs.declared.atom.Edge.TheVariants.{Value, Rise, Fall}
use Rattle.psl_tree.specs.declared.name.Name.{Name}
use Rattle.psl_tree.specs.Holds.{edge_number, is_same_atom}
use Rattle.psl_tree.specs.Letters.{atoms_of_bit, atoms_of_name, atoms_of}
use Rattle.psl_tree.specs.Names.{AtomInRange, indices}

-- whether some element with q passes the test p, where each such element passes it as b says
abbrev first_or : Bool → Bool → Bool → Bool
first_or passes asked rest = cond passes (asked || rest) rest

by_tests : (passes asked b rest any : Bool) → (asked ≡ true → passes ≡ b) → rest ≡ (b && any) → first_or passes asked rest ≡ (b && (asked || any))
by_tests true true true rest any agree next = refl
by_tests true true false rest any agree next = let no = agree refl in cc
by_tests true false b rest any agree next = next
by_tests false true true rest any agree next = let no = agree refl in cc
by_tests false true false rest any agree next = next
by_tests false false b rest any agree next = next

and_true : (b : Bool) → (b && true) ≡ b
and_true true = refl
and_true false = refl

none_of : (b : Bool) → false ≡ (b && false)
none_of true = refl
none_of false = refl

by_filter : (p q : Atom → Bool) (x : Atom) (xs : List Atom) (passes : Bool) → list_any q (cond passes (x ∷ filter p xs) (filter p xs)) ≡ first_or passes (q x) (list_any q (filter p xs))
by_filter p q x xs true = refl
by_filter p q x xs false = refl

list_any-filter : (p q : Atom → Bool) (b : Bool) (xs : List Atom) → ((x : Atom) → q x ≡ true → p x ≡ b) → list_any q (filter p xs) ≡ (b && list_any q xs)
list_any-filter p q b [] agree = none_of b
list_any-filter p q b (x ∷ xs) agree =
    by_filter p q x xs (p x) ∙ by_tests (p x) (q x) b (list_any q (filter p xs)) (list_any q xs) (agree x) (list_any-filter p q b xs agree)

list_any-flat_map : {X A : Type 0} (q : A → Bool) (f : X → List A) (xs : List X) → list_any q (flat_map f xs) ≡ list_any (λ x. list_any q (f x)) xs
list_any-flat_map q f [] = refl
list_any-flat_map q f (x ∷ xs) = list_any-append q (f x) (flat_map f xs) ∙ ap (λ rest. list_any q (f x) || rest) (list_any-flat_map q f xs)

edge_number-same : (left right : Edge) → edge_number left ≡ edge_number right → left ≡ right
edge_number-same Value Value e = refl
edge_number-same Value Rise e = absurd (omega (arith, e))
edge_number-same Value Fall e = absurd (omega (arith, e))
edge_number-same Rise Value e = absurd (omega (arith, e))
edge_number-same Rise Rise e = refl
edge_number-same Rise Fall e = absurd (omega (arith, e))
edge_number-same Fall Value e = absurd (omega (arith, e))
edge_number-same Fall Rise e = absurd (omega (arith, e))
edge_number-same Fall Fall e = refl

abbrev atom_with : ℕ → ℕ → Edge → Atom
atom_with signal bit edge = record { signal = signal; bit = bit; edge = edge }

atom_with-same : (signal bit : ℕ) (edge : Edge) (atom : Atom) → signal ≡ atom.signal → bit ≡ atom.bit → edge ≡ atom.edge → atom_with signal bit edge ≡ atom
atom_with-same signal bit edge atom signals bits edges =
    ap (λ s. atom_with s bit edge) signals ∙ ap (λ b. atom_with atom.signal b edge) bits ∙ ap (λ e. atom_with atom.signal atom.bit e) edges

-- atoms that ask the same are equal
same_atom-equal : (left right : Atom) → is_same_atom left right ≡ true → right ≡ left
same_atom-equal left right same =
    let parts = and_parts ((eqb left.signal right.signal) && (eqb left.bit right.bit)) _ same in
    let front = and_parts (eqb left.signal right.signal) (eqb left.bit right.bit) parts.0 in
    atom_with-same right.signal right.bit right.edge left (sym (eqb-true _ _ front.0)) (sym (eqb-true _ _ front.1)) (sym (edge_number-same left.edge right.edge (eqb-true _ _ parts.1)))

-- what can be asked of a bit is among its atoms
asked : (signal bit : ℕ) (edge : Edge) → list_any (is_same_atom (atom_with signal bit edge)) (atoms_of_bit signal bit) ≡ true
asked signal bit Value = rw (eq-eqb signal signal refl, eq-eqb bit bit refl) refl
asked signal bit Rise = rw (eq-eqb signal signal refl, eq-eqb bit bit refl) refl
asked signal bit Fall = rw (eq-eqb signal signal refl, eq-eqb bit bit refl) refl

-- a bit of a name is among what can be asked of it
of_name : (name : Name) (atom : Atom) → name.signal ≡ atom.signal → atom.bit < indices name → list_any (is_same_atom atom) (atoms_of_name name) ≡ true
of_name name atom signals in_range =
    let bits : get_or (range_with_len 0 (indices name)) atom.bit 0 ≡ atom.bit = get_or-range_with_len 0 (indices name) atom.bit 0 in_range ∙ (omega arith) in
    let here : list_any (is_same_atom atom) (atoms_of_bit name.signal (get_or (range_with_len 0 (indices name)) atom.bit 0)) ≡ true =
    rw (bits, signals) (asked atom.signal atom.bit atom.edge) in
    list_any-flat_map (is_same_atom atom) (atoms_of_bit name.signal) (range_with_len 0 (indices name))
    ∙ list_any_at (λ bit. list_any (is_same_atom atom) (atoms_of_bit name.signal bit)) (range_with_len 0 (indices name)) atom.bit 0 (omega (arith, length-range_with_len 0 (indices name), in_range)) here

-- an atom in range is among the atoms of the names
in_range-among : (names : List Name) (atom : Atom) → AtomInRange names atom → list_any (is_same_atom atom) (atoms_of names) ≡ true
in_range-among names atom in_range =
    let k = in_range.named.0 in
    let name = in_range.named.1 in
    let at : (get_or names k name).signal ≡ atom.signal = ap (λ (n : Name). n.signal) in_range.named.3 ∙ in_range.named.4 in
    list_any-flat_map (is_same_atom atom) atoms_of_name names
    ∙ list_any_at (λ n. list_any (is_same_atom atom) (atoms_of_name n)) names k name in_range.named.2
    (of_name (get_or names k name) atom at (in_range.within k name in_range.named.2 at))

-- whether an atom in range is among those that pass a test
pub among-passed : (passes : Atom → Bool) (names : List Name) (atom : Atom) → AtomInRange names atom → list_any (is_same_atom atom) (filter passes (atoms_of names)) ≡ passes atom
among-passed passes names atom in_range =
    list_any-filter passes (is_same_atom atom) (passes atom) (atoms_of names) (λ x same. ap passes (same_atom-equal atom x same))
    ∙ rw (in_range-among names atom in_range) (and_true (passes atom))
