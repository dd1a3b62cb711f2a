-- How many places wait.
use Rattle.std.proofs.Common.{◌≡◌, ◌≢◌, ℕ, zero, suc, ◌+◌, ◌-◌, ◌<◌, ◌≤◌, Bool, true, false, cond, leb, sub-one, ◌&&◌, List, length, set, inl, inr, refl, sym, ap, ◌∙◌, subst, arith}
use Rattle.std.proofs.lemmas.Bool.{cases_eq, cases_lt, le-leb, lt-leb}
use Rattle.std.proofs.lemmas.List.{get_or-set_same, get_or-set_other, get_or_past}
use Rattle.cdcl_conflict.specs.declared.standing.Standing.{Standing}
use Rattle.cdcl_conflict.specs.declared.standing.Standing.TheVariants.{Untouched, Waiting, Explained, Kept}
use Rattle.cdcl_conflict.specs.Standings.{standing_at, is_waiting, waiting_below}

-- a place with another standing than none is within
pub touched_within : (standings : List Standing) (place : ℕ) → standing_at standings place ≢ Untouched → place < length standings
touched_within standings place touched =
    elim (cases_lt place (length standings)) [
      | inl within ↦ within
      | inr past ↦ absurd (touched (get_or_past standings place Untouched past))
    ]

-- what a place stands for after a write
pub standing-same : (standings : List Standing) (place : ℕ) (new : Standing) → place < length standings → standing_at (set standings place new) place ≡ new
standing-same standings place new within = get_or-set_same standings place new Untouched within

pub standing-other : (standings : List Standing) (place other : ℕ) (new : Standing) → other ≢ place → standing_at (set standings place new) other ≡ standing_at standings other
standing-other standings place other new differs = get_or-set_other standings place other new Untouched differs

abbrev one : List Standing → ℕ → ℕ → ℕ
one standings start place = cond (leb start place && is_waiting (standing_at standings place)) 1 0

-- a place that waits counts from the start on
pub one-waiting : (standings : List Standing) (start place : ℕ) → start ≤ place → standing_at standings place ≡ Waiting → one standings start place ≡ 1
one-waiting standings start place above waits = rw (le-leb start place above, waits) refl

pub one-before : (standings : List Standing) (start place : ℕ) → place < start → one standings start place ≡ 0
one-before standings start place below = rw (lt-leb start place below) refl

and-false : (b : Bool) → (b && false) ≡ false
and-false true = refl
and-false false = refl

and-true : (b : Bool) → (b && true) ≡ b
and-true true = refl
and-true false = refl

not_waiting : (standing : Standing) → standing ≢ Waiting → is_waiting standing ≡ false
not_waiting Untouched differs = refl
not_waiting Waiting differs = absurd (differs refl)
not_waiting Explained differs = refl
not_waiting Kept differs = refl

pub one-not_waiting : (standings : List Standing) (start place : ℕ) → standing_at standings place ≢ Waiting → one standings start place ≡ 0
one-not_waiting standings start place differs =
    ap (λ w. cond (leb start place && w) 1 0) (not_waiting (standing_at standings place) differs) ∙ ap (λ b. cond b 1 0) (and-false (leb start place))

-- a write at the end or behind it changes no count
pub waiting-behind : (standings : List Standing) (start end place : ℕ) (new : Standing) → end ≤ place → waiting_below (set standings place new) start end ≡ waiting_below standings start end
waiting-behind standings start zero place new behind = refl
waiting-behind standings start (suc end) place new behind =
    let rest = waiting-behind standings start end place new (omega arith) in
    let same = standing-other standings place end new (λ e. omega arith) in
    rw (rest, same) refl

-- a place that was untouched and waits counts from the start on
pub waiting-more : (standings : List Standing) (start end place : ℕ) → place < end → place < length standings → standing_at standings place ≡ Untouched →
    waiting_below (set standings place Waiting) start end ≡ waiting_below standings start end + cond (leb start place) 1 0
waiting-more standings start zero place before within clear = absurd (omega arith)
waiting-more standings start (suc end) place before within clear =
    elim (cases_eq place end) [
      | inl last ↦
          let rest = waiting-behind standings start end place Waiting (omega arith) in
          let new : one (set standings place Waiting) start end ≡ cond (leb start place) 1 0 =
          subst (λ (e : ℕ). one (set standings place Waiting) start e ≡ cond (leb start place) 1 0) last
          (rw (standing-same standings place Waiting within) (ap (λ b. cond b 1 0) (and-true (leb start place)))) in
          let old : one standings start end ≡ 0 =
          subst (λ (e : ℕ). one standings start e ≡ 0) last (rw clear (ap (λ b. cond b 1 0) (and-false (leb start place)))) in
          omega (arith, rest, new, old)
      | inr other ↦
          let rest = waiting-more standings start end place (omega arith) within clear in
          let same = standing-other standings place end Waiting (λ e. other (sym e)) in
          let one_same : one (set standings place Waiting) start end ≡ one standings start end = ap (λ s. cond (leb start end && is_waiting s) 1 0) same in
          omega (arith, rest, one_same)
    ]

-- where none waits from the start on, each place up to the end does not wait
pub waiting_none : (standings : List Standing) (start end place : ℕ) → waiting_below standings start end ≡ 0 → start ≤ place → place < end → standing_at standings place ≢ Waiting
waiting_none standings start zero place none above before waits = omega arith
waiting_none standings start (suc end) place none above before waits =
    elim (cases_eq place end) [
      | inl last ↦
          let here : one standings start end ≡ 1 = subst (λ (e : ℕ). one standings start e ≡ 1) last (one-waiting standings start place above waits) in
          omega (arith, here, none)
      | inr other ↦ waiting_none standings start end place (omega (arith, none)) above (omega arith) waits
    ]

-- what waits is past the start
pub waiting_past : (standings : List Standing) (start end : ℕ) → 0 < waiting_below standings start end → start < end
waiting_past standings start zero some = absurd (omega arith)
waiting_past standings start (suc end) some =
    elim (cases_lt end start) [
      | inl below ↦ absurd (let none = one-before standings start end below in let before = waiting_past standings start end (omega (arith, none)) in omega arith)
      | inr above ↦ omega arith
    ]

pub at_most : (b : Bool) → cond b 1 0 ≤ 1
at_most true = omega arith
at_most false = omega arith

-- no count is larger than the number of places
pub waiting_few : (standings : List Standing) (start end : ℕ) → waiting_below standings start end ≤ end
waiting_few standings start zero = omega arith
waiting_few standings start (suc end) =
    let few : one standings start end ≤ 1 = at_most (leb start end && is_waiting (standing_at standings end)) in
    omega (arith, waiting_few standings start end)

-- a place that waits is one more
pub waiting-last : (standings : List Standing) (start end : ℕ) → 0 < waiting_below standings start end → standing_at standings (end - 1) ≡ Waiting →
    (start ≤ end - 1) × (waiting_below standings start (end - 1) + 1 ≡ waiting_below standings start end)
waiting-last standings start zero some waits = absurd (omega arith)
waiting-last standings start (suc end) some waits =
    let past = waiting_past standings start (suc end) some in
    let here : standing_at standings end ≡ Waiting = rw sub-one at waits in
    rw sub-one (omega arith, omega (arith, one-waiting standings start end (omega arith) here))

-- where each place is untouched, none waits
pub waiting_untouched : (standings : List Standing) (start end : ℕ) → ((place : ℕ) → standing_at standings place ≡ Untouched) → waiting_below standings start end ≡ 0
waiting_untouched standings start zero clear = refl
waiting_untouched standings start (suc end) clear =
    omega (arith, waiting_untouched standings start end clear, one-not_waiting standings start end (λ waits. let e = clear end in cc))
