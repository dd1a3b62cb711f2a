-- What holds at a sample over the names of a netlist holds there over the names of a trace.
use Rattle.std.proofs.Common.{◌≡◌, ◌∙◌, refl, sym, ap, subst, ℕ, ◌<◌, ◌≤◌, Bool, true, false, ◌&&◌, ◌||◌, cond, eqb, List, [], ◌∷◌, length, get_or, arith, inl, inr}
use Rattle.std.specs.Prelude.{All, Any, not, nat_lt}
use Rattle.std.specs.List.{filter, flat_map, list_any, range_with_len}
use Rattle.std.proofs.lemmas.Bool.{and_parts, cases_lt, eq-eqb, eqb-true, le-ltb, lt-ltb}
use Rattle.std.proofs.lemmas.List.{append-nil}
use Rattle.std.proofs.lemmas.List.Elements.{All-head, All-tail}
use Rattle.std.proofs.lemmas.List.Folds.{list_any-append, list_any_at}
use Rattle.std.proofs.lemmas.List.FromFn.{get_or-map-range_with_len, length-map-range_with_len}
use Rattle.netlist.specs.Design.{Design}
use Rattle.netlist.specs.Sound.{IsSound, NamesBit}
use Rattle.psl_tree.specs.Holds.{edge_number, holds_among, is_same_atom}
use Rattle.psl_tree.specs.Letters.{Bits, atom_at, atoms_of, atoms_of_bit, atoms_of_name}
use Rattle.psl_tree.specs.Names.{AtomInRange, indices}
use Rattle.psl_tree.specs.Trees.{Boolean, Const, Test, Not, And, Or}
use Rattle.psl_tree.specs.declared.atom.Atom.{Atom}
use Rattle.psl_tree.specs.declared.atom.Edge.{Edge}
use Rattle.psl_tree.specs.declared.atom.Edge.TheVariants.{Value, Rise, Fall}
use Rattle.psl_tree.specs.declared.name.Name.{Name}
use Rattle.trace.specs.Trace.{name_in, trace_names}

-- ---- what can be asked of names of signals of one bit

bit-cases : (edge : Edge) (signal bit : Bool)
    → ((signal && bit && eqb (edge_number edge) 0) || ((signal && bit && eqb (edge_number edge) 1) || ((signal && bit && eqb (edge_number edge) 2) || false))) ≡ (signal && bit)
bit-cases Value true true = refl
bit-cases Value true false = refl
bit-cases Value false bit = refl
bit-cases Rise true true = refl
bit-cases Rise true false = refl
bit-cases Rise false bit = refl
bit-cases Fall true true = refl
bit-cases Fall true false = refl
bit-cases Fall false bit = refl

asked-bit : (atom : Atom) (signal : ℕ) → list_any (is_same_atom atom) (atoms_of_bit signal 0) ≡ (eqb atom.signal signal && eqb atom.bit 0)
asked-bit atom signal = bit-cases atom.edge (eqb atom.signal signal) (eqb atom.bit 0)

atoms-of : (signals : ℕ) (name : Name) → NamesBit signals name → atoms_of_name name ≡ atoms_of_bit name.signal 0
atoms-of signals name names =
    let one : indices name ≡ 1 = rw (names.left, names.right) refl in
    ap (λ (n : ℕ). flat_map (atoms_of_bit name.signal) (range_with_len 0 n)) one ∙ append-nil (atoms_of_bit name.signal 0)

either-and : (one other bit : Bool) → ((one && bit) || (other && bit)) ≡ ((one || other) && bit)
either-and true other true = refl
either-and true true false = refl
either-and true false false = refl
either-and false other bit = refl

abbrev has : ℕ → List Name → Bool
has signal names = list_any (λ (name : Name). eqb signal name.signal) names

asked-names : (signals : ℕ) (names : List Name) (atom : Atom) → All (NamesBit signals) names → list_any (is_same_atom atom) (atoms_of names) ≡ (has atom.signal names && eqb atom.bit 0)
asked-names signals [] atom bits = refl
asked-names signals (name ∷ names) atom bits =
    list_any-append (is_same_atom atom) (atoms_of_name name) (atoms_of names)
    ∙ ap (λ (b : Bool). b || list_any (is_same_atom atom) (atoms_of names)) (ap (list_any (is_same_atom atom)) (atoms-of signals name (All-head (NamesBit signals) name names bits)) ∙ asked-bit atom name.signal)
    ∙ ap (λ (b : Bool). (eqb atom.signal name.signal && eqb atom.bit 0) || b) (asked-names signals names atom (All-tail (NamesBit signals) name names bits))
    ∙ either-and (eqb atom.signal name.signal) (has atom.signal names) (eqb atom.bit 0)

-- ---- names of just the first signals

none-has : (signals signal : ℕ) (names : List Name) → signals ≤ signal → All (NamesBit signals) names → has signal names ≡ false
none-has signals signal [] above bits = refl
none-has signals signal (name ∷ names) above bits =
    let low = (All-head (NamesBit signals) name names bits).signal in
    ap (λ (b : Bool). b || has signal names) (let no : eqb signal name.signal ≡ false = grind (arith, low, above) in no)
    ∙ none-has signals signal names above (All-tail (NamesBit signals) name names bits)

has-first : (signals : ℕ) (names : List Name) → All (NamesBit signals) names → ((signal : ℕ) → signal < signals → Any (λ name. name.signal ≡ signal) names) → (signal : ℕ) → has signal names ≡ nat_lt signal signals
has-first signals names bits each signal = elim (cases_lt signal signals) [
  | inl below ↦
      let named = each signal below in
      let at : (get_or names named.0 named.1).signal ≡ signal = ap (λ (n : Name). n.signal) named.3 ∙ named.4 in
      list_any_at (λ (name : Name). eqb signal name.signal) names named.0 named.1 named.2 (eq-eqb signal _ (sym at))
      ∙ sym (lt-ltb signal signals below)
  | inr above ↦ none-has signals signal names above bits ∙ sym (le-ltb signal signals above)
]

pub trace-bits : (design : Design) → All (NamesBit design.signals) (trace_names design)
trace-bits design place other within =
    let below : place < design.signals = omega (arith, within, length-map-range_with_len (name_in design.names) 0 design.signals) in
    let is : get_or (trace_names design) place other ≡ name_in design.names place = get_or-map-range_with_len (name_in design.names) 0 design.signals place place other below (omega arith) in
    subst (NamesBit design.signals) (sym is) (record { signal = below; left = refl; right = refl })

trace-named : (design : Design) (signal : ℕ) → signal < design.signals → Any (λ name. name.signal ≡ signal) (trace_names design)
trace-named design signal below =
    let within : signal < length (trace_names design) = omega (arith, below, length-map-range_with_len (name_in design.names) 0 design.signals) in
    (signal, name_in design.names signal, within, get_or-map-range_with_len (name_in design.names) 0 design.signals signal signal (name_in design.names signal) below (omega arith), refl)

asked-same : (design : Design) → IsSound design → (atom : Atom) → list_any (is_same_atom atom) (atoms_of (trace_names design)) ≡ list_any (is_same_atom atom) (atoms_of design.names)
asked-same design sound atom =
    asked-names design.signals (trace_names design) atom (trace-bits design)
    ∙ ap (λ (b : Bool). b && eqb atom.bit 0) (has-first design.signals (trace_names design) (trace-bits design) (trace-named design) atom.signal ∙ sym (has-first design.signals design.names sound.names sound.named atom.signal))
    ∙ sym (asked-names design.signals design.names atom sound.names)

-- ---- what holds

edge-same : (left right : Edge) → edge_number left ≡ edge_number right → left ≡ right
edge-same Value Value e = refl
edge-same Value Rise e = absurd (omega (arith, e))
edge-same Value Fall e = absurd (omega (arith, e))
edge-same Rise Value e = absurd (omega (arith, e))
edge-same Rise Rise e = refl
edge-same Rise Fall e = absurd (omega (arith, e))
edge-same Fall Value e = absurd (omega (arith, e))
edge-same Fall Rise e = absurd (omega (arith, e))
edge-same Fall Fall e = refl

abbrev atom_with : ℕ → ℕ → Edge → Atom
atom_with signal bit edge = record { signal = signal; bit = bit; edge = edge }

-- atoms that ask the same are one
same-atom : (left right : Atom) → is_same_atom left right ≡ true → right ≡ left
same-atom left right same =
    let parts = and_parts (eqb left.signal right.signal && eqb left.bit right.bit) _ same in
    let front = and_parts (eqb left.signal right.signal) (eqb left.bit right.bit) parts.0 in
    ap (λ (s : ℕ). atom_with s right.bit right.edge) (sym (eqb-true left.signal right.signal front.0))
    ∙ ap (λ (b : ℕ). atom_with left.signal b right.edge) (sym (eqb-true left.bit right.bit front.1))
    ∙ ap (λ (e : Edge). atom_with left.signal left.bit e) (sym (edge-same left.edge right.edge (eqb-true _ _ parts.1)))

pass-cases : (q : Atom → Bool) (x : Atom) (rest : List Atom) (passes asks all any : Bool) → q x ≡ asks → (asks ≡ true → passes ≡ all) → list_any q rest ≡ (all && any)
    → list_any q (cond passes (x ∷ rest) rest) ≡ (all && (asks || any))
pass-cases q x rest true true true any is agree next = ap (λ (b : Bool). b || list_any q rest) is
pass-cases q x rest true true false any is agree next = let no = agree refl in cc
pass-cases q x rest true false all any is agree next = ap (λ (b : Bool). b || list_any q rest) is ∙ next
pass-cases q x rest false true true any is agree next = let no = agree refl in cc
pass-cases q x rest false true false any is agree next = next
pass-cases q x rest false false all any is agree next = next

none-passes : (all : Bool) → false ≡ (all && false)
none-passes true = refl
none-passes false = refl

passed : (p : Atom → Bool) (atom : Atom) (atoms : List Atom) → list_any (is_same_atom atom) (filter p atoms) ≡ (p atom && list_any (is_same_atom atom) atoms)
passed p atom [] = none-passes (p atom)
passed p atom (x ∷ atoms) =
    pass-cases (is_same_atom atom) x (filter p atoms) (p x) (is_same_atom atom x) (p atom) (list_any (is_same_atom atom) atoms) refl (λ e. ap p (same-atom atom x e)) (passed p atom atoms)

pub held-same : (design : Design) → IsSound design → (bits : Bits) (sample : ℕ) (test : Boolean)
    → holds_among (filter (atom_at bits sample) (atoms_of (trace_names design))) test ≡ holds_among (filter (atom_at bits sample) (atoms_of design.names)) test
held-same design sound bits sample (Const value) = refl
held-same design sound bits sample (Test atom) =
    passed (atom_at bits sample) atom (atoms_of (trace_names design))
    ∙ ap (λ (b : Bool). atom_at bits sample atom && b) (asked-same design sound atom)
    ∙ sym (passed (atom_at bits sample) atom (atoms_of design.names))
held-same design sound bits sample (Not part) = ap not (held-same design sound bits sample part)
held-same design sound bits sample (And left right) = rw (held-same design sound bits sample left, held-same design sound bits sample right) refl
held-same design sound bits sample (Or left right) = rw (held-same design sound bits sample left, held-same design sound bits sample right) refl

-- ---- atoms of names

pub in-range : (design : Design) → IsSound design → (atom : Atom) → AtomInRange design.names atom → AtomInRange (trace_names design) atom
in-range design sound atom ranged =
    let place = ranged.named.0 in
    let name = ranged.named.1 in
    let at : (get_or design.names place name).signal ≡ atom.signal = ap (λ (n : Name). n.signal) ranged.named.3 ∙ ranged.named.4 in
    let bits = sound.names place name ranged.named.2 in
    let one : indices (get_or design.names place name) ≡ 1 = rw (bits.left, bits.right) refl in
    let low = ranged.within place name ranged.named.2 at in
    record {
      named = trace-named design atom.signal (omega (arith, bits.signal, at));
      within = λ k other within same. omega (arith, low, one);
    }
