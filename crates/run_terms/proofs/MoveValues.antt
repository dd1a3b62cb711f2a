-- Moves as terms: they are true just where the next position follows.
use Rattle.std.proofs.Common.{◌≡◌, ℕ, ◌<◌, ℤ, Bool, true, false, not, List, [], ◌∷◌, ◌++◌, map, length, get_or, Option, Some, None, refl, sym, ap, ◌∙◌, arith}
use Rattle.std.specs.Prelude.{All, flat_map, is_some}
use Rattle.std.specs.Bool.{IsTrue}
use Rattle.std.specs.List.{list_all}
use Rattle.std.proofs.lemmas.Bool.{and_from, and_parts, false≢true}
use Rattle.std.proofs.lemmas.List.{ext_get_or}
use Rattle.std.proofs.lemmas.List.Folds.{list_all-append}
use Rattle.std.proofs.lemmas.List.Elements.{All-nil, All-cons, All-head, All-tail}
use Rattle.clauses.specs.Models.{Assignment, is_true}
use Rattle.gates_theory.specs.Terms.{value}
use Rattle.gates_theory.specs.Terms.Term.{Literal}
use Rattle.gates_theory.proofs.Literals.{not_not}
use Rattle.gates_theory.proofs.Parts.{same-is, same-from}
use Rattle.netlist.specs.declared.latch.Init.{Init}
use Rattle.netlist.specs.declared.latch.Init.TheVariants as inits
use Rattle.netlist.specs.declared.latch.Latch.{Latch}
use Rattle.netlist.specs.Valuations.{bit, Move, Begin, MayBegin}
use Rattle.run_terms.specs.Moves.{same_term, shift_terms, latch_term, move_terms, init_literals, first_literals}
use Rattle.run_terms.specs.Positions.{had, earlier, current, HasSizes, IsPosition}
use Rattle.run_terms.proofs.Ranges.{all-below, below-all}

-- a latch reads and drives signals that there are
abbrev pub LatchOver : ℕ → Latch → Type 0
LatchOver signals latch = (latch.input < signals) × (latch.output < signals)

some_is : (before : Option (List Bool)) → is_some before ≡ true → (previous : List Bool) × (before ≡ Some previous)
some_is (Some previous) is = (previous, refl)
some_is None is = absurd (false≢true is)

none_is : (before : Option (List Bool)) → is_some before ≡ false → before ≡ None
none_is (Some previous) is = absurd (false≢true (sym is))
none_is None is = refl

latches-move : (signals base next : ℕ) (v : Assignment) (before after : Option (List Bool)) (valuation later : List Bool) (latches : List Latch)
    → IsPosition signals base v before valuation → IsPosition signals next v after later → All (LatchOver signals) latches
    → IsTrue (list_all (value v) (map (latch_term signals base next) latches)) → Move latches valuation later
latches-move signals base next v before after valuation later [] here there over holds = All-nil (λ latch. bit later latch.output ≡ bit valuation latch.input)
latches-move signals base next v before after valuation later (latch ∷ latches) here there over holds =
    let parts = and_parts (value v (latch_term signals base next latch)) (list_all (value v) (map (latch_term signals base next) latches)) holds in
    let within = All-head (LatchOver signals) latch latches over in
    let equal = same-is (is_true v (current signals next latch.output)) (is_true v (current signals base latch.input)) parts.0 in
    All-cons (λ other. bit later other.output ≡ bit valuation other.input) latch latches
    (sym (there.bits latch.output within.1) ∙ equal ∙ here.bits latch.input within.0)
    (latches-move signals base next v before after valuation later latches here there (All-tail (LatchOver signals) latch latches over) parts.1)

move-latches : (signals base next : ℕ) (v : Assignment) (before after : Option (List Bool)) (valuation later : List Bool) (latches : List Latch)
    → IsPosition signals base v before valuation → IsPosition signals next v after later → All (LatchOver signals) latches
    → Move latches valuation later → IsTrue (list_all (value v) (map (latch_term signals base next) latches))
move-latches signals base next v before after valuation later [] here there over move = refl
move-latches signals base next v before after valuation later (latch ∷ latches) here there over move =
    let within = All-head (LatchOver signals) latch latches over in
    let moved = All-head (λ other. bit later other.output ≡ bit valuation other.input) latch latches move in
    and_from (value v (latch_term signals base next latch)) (list_all (value v) (map (latch_term signals base next) latches))
    (same-from (is_true v (current signals next latch.output)) (is_true v (current signals base latch.input))
    (there.bits latch.output within.1 ∙ moved ∙ sym (here.bits latch.input within.0)))
    (move-latches signals base next v before after valuation later latches here there (All-tail (LatchOver signals) latch latches over)
    (All-tail (λ other. bit later other.output ≡ bit valuation other.input) latch latches move))

-- where the terms are true, the valuation before the next position is this one, and the latches move
pub moves-follow : (signals base next : ℕ) (v : Assignment) (before after : Option (List Bool)) (valuation later : List Bool) (latches : List Latch)
    → IsPosition signals base v before valuation → IsPosition signals next v after later → length valuation ≡ signals → HasSizes signals after later
    → All (LatchOver signals) latches → IsTrue (list_all (value v) (move_terms signals base next latches)) → (after ≡ Some valuation) × Move latches valuation later
moves-follow signals base next v before after valuation later latches here there size sized over holds =
    let parts = and_parts (value v (Literal (had next))) (list_all (value v) (shift_terms signals base next ++ map (latch_term signals base next) latches)) holds in
    let rest = and_parts (list_all (value v) (shift_terms signals base next)) (list_all (value v) (map (latch_term signals base next) latches))
    (sym (list_all-append (value v) (shift_terms signals base next) (map (latch_term signals base next) latches)) ∙ parts.1) in
    let found = some_is after (sym there.preceded ∙ parts.0) in
    let previous = found.0 in
    let long : length previous ≡ signals = sized.size_before previous found.1 in
    let equal : (i : ℕ) → i < length previous → get_or previous i false ≡ get_or valuation i false = λ i below.
    let within : i < signals = omega (arith, long) in
    sym (there.bits_before previous found.1 i within)
    ∙ same-is (is_true v (earlier next i)) (is_true v (current signals base i)) (all-below (value v) (λ signal. same_term (earlier next signal) (current signals base signal)) signals rest.0 i within)
    ∙ here.bits i within in
    (found.1 ∙ ap Some (ext_get_or false previous valuation (long ∙ sym size) equal), latches-move signals base next v before after valuation later latches here there over rest.1)

pub follow-moves : (signals base next : ℕ) (v : Assignment) (before : Option (List Bool)) (valuation later : List Bool) (latches : List Latch)
    → IsPosition signals base v before valuation → IsPosition signals next v (Some valuation) later
    → All (LatchOver signals) latches → Move latches valuation later → IsTrue (list_all (value v) (move_terms signals base next latches))
follow-moves signals base next v before valuation later latches here there over move =
    let shifts = below-all (value v) (λ signal. same_term (earlier next signal) (current signals base signal)) signals (λ i below.
    same-from (is_true v (earlier next i)) (is_true v (current signals base i)) (there.bits_before valuation refl i below ∙ sym (here.bits i below))) in
    let moved = move-latches signals base next v before (Some valuation) valuation later latches here there over move in
    and_from (value v (Literal (had next))) (list_all (value v) (shift_terms signals base next ++ map (latch_term signals base next) latches)) there.preceded
    (list_all-append (value v) (shift_terms signals base next) (map (latch_term signals base next) latches)
    ∙ and_from (list_all (value v) (shift_terms signals base next)) (list_all (value v) (map (latch_term signals base next) latches)) shifts moved)

-- the first position
abbrev latch_first : ℕ → ℕ → Latch → List ℤ
latch_first signals base latch = init_literals latch.init (current signals base latch.output)

init-says : (signals base : ℕ) (v : Assignment) (init : Init) (signal : ℕ) (b : Bool) → is_true v (current signals base signal) ≡ b
    → IsTrue (list_all (is_true v) (init_literals init (current signals base signal))) → MayBegin init b
init-says signals base v inits.Zero signal true is holds = absurd (false≢true (sym (ap not is) ∙ (and_parts (not (is_true v (current signals base signal))) true holds).0))
init-says signals base v inits.Zero signal false is holds = refl
init-says signals base v inits.One signal b is holds = sym is ∙ (and_parts (is_true v (current signals base signal)) true holds).0
init-says signals base v inits.Free signal b is holds = tt

init-from : (signals base : ℕ) (v : Assignment) (init : Init) (signal : ℕ) (b : Bool) → is_true v (current signals base signal) ≡ b
    → MayBegin init b → IsTrue (list_all (is_true v) (init_literals init (current signals base signal)))
init-from signals base v inits.Zero signal b is may = and_from (not (is_true v (current signals base signal))) true (ap not (is ∙ may)) refl
init-from signals base v inits.One signal b is may = and_from (is_true v (current signals base signal)) true (is ∙ may) refl
init-from signals base v inits.Free signal b is may = refl

latches-begin : (signals base : ℕ) (v : Assignment) (before : Option (List Bool)) (valuation : List Bool) (latches : List Latch) → IsPosition signals base v before valuation
    → All (LatchOver signals) latches → IsTrue (list_all (is_true v) (flat_map (latch_first signals base) latches)) → Begin latches valuation
latches-begin signals base v before valuation [] here over holds = All-nil (λ latch. MayBegin latch.init (bit valuation latch.output))
latches-begin signals base v before valuation (latch ∷ latches) here over holds =
    let parts = and_parts (list_all (is_true v) (latch_first signals base latch)) (list_all (is_true v) (flat_map (latch_first signals base) latches))
    (sym (list_all-append (is_true v) (latch_first signals base latch) (flat_map (latch_first signals base) latches)) ∙ holds) in
    All-cons (λ other. MayBegin other.init (bit valuation other.output)) latch latches
    (init-says signals base v latch.init latch.output (bit valuation latch.output) (here.bits latch.output (All-head (LatchOver signals) latch latches over).1) parts.0)
    (latches-begin signals base v before valuation latches here (All-tail (LatchOver signals) latch latches over) parts.1)

begin-latches : (signals base : ℕ) (v : Assignment) (before : Option (List Bool)) (valuation : List Bool) (latches : List Latch) → IsPosition signals base v before valuation
    → All (LatchOver signals) latches → Begin latches valuation → IsTrue (list_all (is_true v) (flat_map (latch_first signals base) latches))
begin-latches signals base v before valuation [] here over begin = refl
begin-latches signals base v before valuation (latch ∷ latches) here over begin =
    list_all-append (is_true v) (latch_first signals base latch) (flat_map (latch_first signals base) latches)
    ∙ and_from (list_all (is_true v) (latch_first signals base latch)) (list_all (is_true v) (flat_map (latch_first signals base) latches))
    (init-from signals base v latch.init latch.output (bit valuation latch.output) (here.bits latch.output (All-head (LatchOver signals) latch latches over).1)
    (All-head (λ other. MayBegin other.init (bit valuation other.output)) latch latches begin))
    (begin-latches signals base v before valuation latches here (All-tail (LatchOver signals) latch latches over)
    (All-tail (λ other. MayBegin other.init (bit valuation other.output)) latch latches begin))

-- the literals are true just where no valuation is before and the latches have their first values
pub first-begins : (signals base : ℕ) (v : Assignment) (before : Option (List Bool)) (valuation : List Bool) (latches : List Latch) → IsPosition signals base v before valuation
    → All (LatchOver signals) latches → IsTrue (list_all (is_true v) (first_literals signals base latches)) → (before ≡ None) × Begin latches valuation
first-begins signals base v before valuation latches here over holds =
    let parts = and_parts (not (is_true v (had base))) (list_all (is_true v) (flat_map (latch_first signals base) latches)) holds in
    (none_is before (sym (not_not (is_some before)) ∙ ap not (sym (ap not here.preceded) ∙ parts.0)), latches-begin signals base v before valuation latches here over parts.1)

pub begins-first : (signals base : ℕ) (v : Assignment) (valuation : List Bool) (latches : List Latch) → IsPosition signals base v None valuation
    → All (LatchOver signals) latches → Begin latches valuation → IsTrue (list_all (is_true v) (first_literals signals base latches))
begins-first signals base v valuation latches here over begin =
    and_from (not (is_true v (had base))) (list_all (is_true v) (flat_map (latch_first signals base) latches)) (ap not here.preceded)
    (begin-latches signals base v None valuation latches here over begin)
