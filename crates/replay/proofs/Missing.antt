-- The first input or latch that is not recorded.
use Rattle.std.proofs.Common.{◌≡◌, ◌∙◌, refl, sym, ap, ℕ, ◌+◌, ◌<◌, Bool, true, false, List, [], ◌∷◌, ◌++◌, length, map, take, drop, get_or, take-append-drop, Option, None, Some, arith}
use Rattle.std.specs.Prelude.{All, cond, is_none, slice_index_or}
use Rattle.std.specs.List.{find}
use Rattle.std.proofs.lemmas.List.{get_or-map, length-map, take_more}
use Rattle.std.proofs.lemmas.List.Elements.{All-head, All-tail}
use Rattle.netlist.specs.declared.latch.Latch.{Latch}
use Rattle.psl_sugar.specs.declared.vector.Bit.{Bit}
use Rattle.replay.specs.ByBits.{missing_among}

some-more : {A : Type 0} (b : Bool) (a x : A) (front back : Option A) → (front ≡ Some x → back ≡ Some x) → cond b (Some a) front ≡ Some x → cond b (Some a) back ≡ Some x
some-more true a x front back more found = found
some-more false a x front back more found = more found

-- what is found in a list is found with more behind it
pub found-more : {A : Type 0} (test : A → Bool) (xs ys : List A) (x : A) → find test xs ≡ Some x → find test (xs ++ ys) ≡ Some x
found-more test [] ys x found = cc
found-more test (a ∷ xs) ys x found = some-more (test a) a x (find test xs) (find test (xs ++ ys)) (found-more test xs ys x) found

none-then : {A : Type 0} (b : Bool) (a : A) (front back later : Option A) → (front ≡ None → back ≡ later) → cond b (Some a) front ≡ None → cond b (Some a) back ≡ later
none-then true a front back later more none = cc
none-then false a front back later more none = more none

-- where nothing is found, it is looked for in what is behind
pub none-more : {A : Type 0} (test : A → Bool) (xs ys : List A) → find test xs ≡ None → find test (xs ++ ys) ≡ find test ys
none-more test [] ys none = refl
none-more test (a ∷ xs) ys none = none-then (test a) a (find test xs) (find test (xs ++ ys)) (find test ys) (none-more test xs ys) none

-- tests that agree on the members find the same
pub found-same : (one two : ℕ → Bool) (members : List ℕ) → All (λ member. one member ≡ two member) members → find one members ≡ find two members
found-same one two [] agree = refl
found-same one two (member ∷ members) agree =
    ap (λ (b : Bool). cond b (Some member) (find one members)) (All-head (λ (m : ℕ). one m ≡ two m) member members agree)
    ∙ ap (λ (o : Option ℕ). cond (two member) (Some member) o) (found-same one two members (All-tail (λ (m : ℕ). one m ≡ two m) member members agree))

-- one member more that has a bit
pub none-next : (test : ℕ → Bool) (members : List ℕ) (place other : ℕ) → place < length members → find test (take place members) ≡ None → test (get_or members place other) ≡ false
    → find test (take (place + 1) members) ≡ None
none-next test members place other within none has =
    ap (find test) (take_more members place other within)
    ∙ none-more test (take place members) (get_or members place other ∷ []) none
    ∙ ap (λ (b : Bool). cond b (Some (get_or members place other)) None) has

-- the first that has none
pub found-next : (test : ℕ → Bool) (members : List ℕ) (place other : ℕ) → place < length members → find test (take place members) ≡ None → test (get_or members place other) ≡ true
    → find test members ≡ Some (get_or members place other)
found-next test members place other within none has =
    let there : find test (take (place + 1) members) ≡ Some (get_or members place other) =
    ap (find test) (take_more members place other within)
    ∙ none-more test (take place members) (get_or members place other ∷ []) none
    ∙ ap (λ (b : Bool). cond b (Some (get_or members place other)) None) has in
    ap (find test) (sym (take-append-drop (place + 1) members)) ∙ found-more test (take (place + 1) members) (drop (place + 1) members) (get_or members place other) there

-- ---- the outputs of latches

abbrev outputs : List Latch → List ℕ
outputs latches = map (λ (latch : Latch). latch.output) latches

-- one latch more that has a bit
pub latch-next : (bits : List (Option Bit)) (latches : List Latch) (place : ℕ) (other : Latch) → place < length latches → missing_among bits (take place (outputs latches)) ≡ None
    → is_none (slice_index_or bits (get_or latches place other).output None) ≡ false → missing_among bits (take (place + 1) (outputs latches)) ≡ None
latch-next bits latches place other within none has =
    let long : place < length (outputs latches) = omega (arith, within, length-map latches (λ (latch : Latch). latch.output)) in
    let at : get_or (outputs latches) place 0 ≡ (get_or latches place other).output = get_or-map (λ (latch : Latch). latch.output) latches place other 0 within in
    none-next (λ (signal : ℕ). is_none (slice_index_or bits signal None)) (outputs latches) place 0 long none (ap (λ (signal : ℕ). is_none (slice_index_or bits signal None)) at ∙ has)

-- the first that has none
pub latch-missing : (bits : List (Option Bit)) (latches : List Latch) (place : ℕ) (other : Latch) → place < length latches → missing_among bits (take place (outputs latches)) ≡ None
    → is_none (slice_index_or bits (get_or latches place other).output None) ≡ true → missing_among bits (outputs latches) ≡ Some (get_or latches place other).output
latch-missing bits latches place other within none has =
    let long : place < length (outputs latches) = omega (arith, within, length-map latches (λ (latch : Latch). latch.output)) in
    let at : get_or (outputs latches) place 0 ≡ (get_or latches place other).output = get_or-map (λ (latch : Latch). latch.output) latches place other 0 within in
    found-next (λ (signal : ℕ). is_none (slice_index_or bits signal None)) (outputs latches) place 0 long none (ap (λ (signal : ℕ). is_none (slice_index_or bits signal None)) at ∙ has)
    ∙ ap (λ (signal : ℕ). Some signal) at
