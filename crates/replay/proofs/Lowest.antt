-- The lowest of numbers, and the first sample where there is one.
use Rattle.std.proofs.Common.{◌≡◌, ◌∙◌, refl, sym, ap, ℕ, zero, suc, ◌+◌, ◌<◌, Bool, true, false, List, [], ◌∷◌, ◌++◌, length, map, take, Option, None, Some, arith}
use Rattle.std.specs.Prelude.{cond, filter, get_or}
use Rattle.std.proofs.lemmas.List.{get_or_default, map-append}
use Rattle.std.proofs.lemmas.List.Elements.{filter_more}
use Rattle.replay.specs.Leaving.{first_from, first_of, lower, lowest}

-- one part after the other
pub lowest-append : (old : Option ℕ) (xs ys : List ℕ) → lowest old (xs ++ ys) ≡ lowest (lowest old xs) ys
lowest-append old [] ys = refl
lowest-append old (x ∷ xs) ys = lowest-append (lower old x) xs ys

-- one member more of a list whose members are tested
pub lowest-more : {A : Type 0} (test : A → Bool) (number : A → ℕ) (old : Option ℕ) (members : List A) (place : ℕ) (member : A) → place < length members
    → lowest old (map number (filter test (take (place + 1) members)))
    ≡ cond (test (get_or members place member)) (lower (lowest old (map number (filter test (take place members)))) (number (get_or members place member))) (lowest old (map number (filter test (take place members))))
lowest-more test number old members place member within =
    ap (λ ms. lowest old (map number ms)) (filter_more test members place member within)
    ∙ by (test (get_or members place member))
  where
    by : (b : Bool) → lowest old (map number (filter test (take place members) ++ cond b (get_or members place member ∷ []) []))
        ≡ cond b (lower (lowest old (map number (filter test (take place members)))) (number (get_or members place member))) (lowest old (map number (filter test (take place members))))
    by true = ap (lowest old) (map-append number (filter test (take place members)) (get_or members place member ∷ [])) ∙ lowest-append old (map number (filter test (take place members))) (number (get_or members place member) ∷ [])
    by false = ap (lowest old) (map-append number (filter test (take place members)) []) ∙ lowest-append old (map number (filter test (take place members))) []

-- the same for what is kept of the lowest
pub kept-lowest : {A : Type 0} (test : A → Bool) (number : A → ℕ) (old : Option ℕ) (members : List A) (place : ℕ) (item : A) (low new : Option ℕ) (counts : Bool) → place < length members
    → item ≡ get_or members place item → low ≡ lowest old (map number (filter test (take place members))) → counts ≡ test item
    → new ≡ cond counts (lower low (number item)) low → new ≡ lowest old (map number (filter test (take (place + 1) members)))
kept-lowest {A} test number old members place item low new counts within here kept is added =
    let before = lowest old (map number (filter test (take place members))) in
    added ∙ ap (λ (b : Bool). cond b (lower low (number item)) low) is
    ∙ ap (λ (o : Option ℕ). cond (test item) (lower o (number item)) o) kept
    ∙ ap (λ (m : A). cond (test m) (lower before (number m)) before) here
    ∙ sym (lowest-more test number old members place item within)

-- the same of the member at the place
pub kept-at : {A : Type 0} (test : A → Bool) (number : A → ℕ) (old : Option ℕ) (members : List A) (place : ℕ) (member : A) (low new : Option ℕ) (counts : Bool) → place < length members
    → low ≡ lowest old (map number (filter test (take place members))) → counts ≡ test (get_or members place member)
    → new ≡ cond counts (lower low (number (get_or members place member))) low → new ≡ lowest old (map number (filter test (take (place + 1) members)))
kept-at test number old members place member low new counts within kept is added =
    kept-lowest test number old members place (get_or members place member) low new counts within (get_or_default members place member (get_or members place member) within) kept is added

-- ---- samples

-- the first sample counts only where no number is there
first-none : (start : ℕ) (here : Option ℕ) (later : Option (ℕ × ℕ)) → first_of start here later ≡ None → (here ≡ None) × (later ≡ None)
first-none start None later none = (refl, none)
first-none start (Some signal) later none = cc

pub none-more : (leaving : ℕ → List ℕ) (start count : ℕ) → first_from leaving start count ≡ None → lowest None (leaving (start + count)) ≡ None → first_from leaving start (suc count) ≡ None
none-more leaving start zero none here = ap (λ o. first_of start o None) (ap (λ n. lowest None (leaving n)) (let e : start ≡ start + zero = omega arith in e) ∙ here)
none-more leaving start (suc count) none here =
    let parts = first-none start (lowest None (leaving start)) (first_from leaving (start + 1) count) none in
    ap (λ o. first_of start o (first_from leaving (start + 1) (suc count))) parts.0
    ∙ none-more leaving (start + 1) count parts.1 (ap (λ n. lowest None (leaving n)) (let s : start + 1 + count ≡ start + suc count = omega arith in s) ∙ here)

pub found-there : (leaving : ℕ → List ℕ) (start before count signal : ℕ) → first_from leaving start before ≡ None → lowest None (leaving (start + before)) ≡ Some signal → before < count
    → first_from leaving start count ≡ Some (start + before, signal)
found-there leaving start before zero signal none here within = absurd (omega arith)
found-there leaving start zero (suc count) signal none here within =
    let same : start ≡ start + zero = omega arith in
    ap (λ o. first_of start o (first_from leaving (start + 1) count)) (ap (λ n. lowest None (leaving n)) same ∙ here) ∙ ap (λ (n : ℕ). let pair : ℕ × ℕ = (n, signal) in Some pair) same
found-there leaving start (suc before) (suc count) signal none here within =
    let parts = first-none start (lowest None (leaving start)) (first_from leaving (start + 1) before) none in
    let later : start + 1 + before ≡ start + suc before = omega arith in
    ap (λ o. first_of start o (first_from leaving (start + 1) count)) parts.0
    ∙ found-there leaving (start + 1) before count signal parts.1 (ap (λ n. lowest None (leaving n)) later ∙ here) (omega arith)
    ∙ ap (λ (n : ℕ). let pair : ℕ × ℕ = (n, signal) in Some pair) later

-- the same from the first sample on

pub none-next : (leaving : ℕ → List ℕ) (sample : ℕ) → first_from leaving 0 sample ≡ None → lowest None (leaving sample) ≡ None → first_from leaving 0 (sample + 1) ≡ None
none-next leaving sample none here =
    ap (first_from leaving 0) (let e : sample + 1 ≡ suc sample = omega arith in e)
    ∙ none-more leaving 0 sample none (ap (λ (n : ℕ). lowest None (leaving n)) (let e : 0 + sample ≡ sample = omega arith in e) ∙ here)

pub found-first : (leaving : ℕ → List ℕ) (sample count signal : ℕ) → first_from leaving 0 sample ≡ None → lowest None (leaving sample) ≡ Some signal → sample < count
    → first_from leaving 0 count ≡ Some (sample, signal)
found-first leaving sample count signal none here within =
    let same : 0 + sample ≡ sample = omega arith in
    found-there leaving 0 sample count signal none (ap (λ (n : ℕ). lowest None (leaving n)) same ∙ here) within
    ∙ ap (λ (n : ℕ). let pair : ℕ × ℕ = (n, signal) in Some pair) same
