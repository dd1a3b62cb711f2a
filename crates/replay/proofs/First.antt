-- The search for the first sample where a signal leaves a netlist finds it, and there is only one.
use Rattle.std.proofs.Common.{◌≡◌, ◌∙◌, refl, sym, ap, subst, ℕ, zero, suc, ◌+◌, ◌<◌, ◌≤◌, ◌⊎◌, inl, inr, ⊎_elim, Bool, List, [], ◌∷◌, length, Option, None, Some, arith}
use Rattle.std.specs.Prelude.{cond, nat_lt}
use Rattle.std.proofs.lemmas.Bool.{cases_lt, lt-ltb, le-ltb}
use Rattle.netlist.specs.Design.{Design}
use Rattle.replay.specs.Leaving.{IsFirst, IsOneOf, LeavesFirst, first_from, first_of, leaves, leaving, lowest}
use Rattle.vcd_reader.specs.Sampled.{Sampled}

-- ---- the lowest of some numbers

-- of a number and some others one is the lowest
record IsLowest (number : ℕ) (numbers : List ℕ) (low : ℕ) : Type 0 where
  member : (low ≡ number) ⊎ IsOneOf low numbers
  head : low ≤ number
  rest : (other : ℕ) → IsOneOf other numbers → low ≤ other

lower-is : (old number : ℕ) → IsLowest old (number ∷ []) (cond (nat_lt number old) number old)
lower-is old number =
    ⊎_elim
    (λ less. subst (λ (b : Bool). IsLowest old (number ∷ []) (cond b number old)) (sym (lt-ltb number old less))
    (record { member = inr (inl refl); head = omega (arith, less); rest = λ other there. ⊎_elim (λ same. omega (arith, same)) (λ none. absurd none) there }))
    (λ more. subst (λ (b : Bool). IsLowest old (number ∷ []) (cond b number old)) (sym (le-ltb number old more))
    (record { member = inl refl; head = omega arith; rest = λ other there. ⊎_elim (λ same. omega (arith, same, more)) (λ none. absurd none) there }))
    (cases_lt number old)

lowest-some : (number : ℕ) (numbers : List ℕ) → (low : ℕ) × (lowest (Some number) numbers ≡ Some low) × IsLowest number numbers low
lowest-some number [] = (number, refl, record { member = inl refl; head = omega arith; rest = λ other there. absurd there })
lowest-some number (other ∷ numbers) =
    let both = lower-is number other in
    let found = lowest-some (cond (nat_lt other number) other number) numbers in
    let low = found.2 in
    let head = low.head in
    let first = both.head in (
      found.0,
      found.1,
      record {
        member = ⊎_elim
            (λ same. ⊎_elim (λ old. inl (same ∙ old)) (λ new. inr (⊎_elim (λ is. inl (is ∙ sym same)) (λ none. absurd none) new)) both.member)
            (λ later. inr (inr later)) low.member;
        head = omega (arith, head, first);
        rest = λ each there. ⊎_elim
            (λ same. let second = both.rest each (inl same) in omega (arith, head, second))
            (λ later. low.rest each later) there;
      },
    )

none-there : (numbers : List ℕ) → lowest None numbers ≡ None → (number : ℕ) → IsOneOf number numbers → ⊥
none-there [] none number there = there
none-there (first ∷ numbers) none number there =
    let found = lowest-some first numbers in
    let bad : ◌≡◌ {A = Option ℕ} None (Some found.0) = sym none ∙ found.1 in
    cc

-- a number is one of some, and none of them is lower
Lowest : List ℕ → ℕ → Type 0
Lowest numbers low = IsOneOf low numbers × ((other : ℕ) → IsOneOf other numbers → low ≤ other)

same-some : (one other : ℕ) → ◌≡◌ {A = Option ℕ} (Some one) (Some other) → one ≡ other
same-some one other e = cc

one-there : (numbers : List ℕ) (low : ℕ) → lowest None numbers ≡ Some low → Lowest numbers low
unfolding Lowest
one-there [] low is = cc
one-there (first ∷ numbers) low is =
    let found = lowest-some first numbers in
    let same : found.0 ≡ low = same-some found.0 low (sym found.1 ∙ is) in
    let least = found.2 in
    let head = least.head in (
      ⊎_elim (λ here. inl (sym here ∙ same)) (λ later. inr (subst (λ n. IsOneOf n numbers) same later)) least.member,
      λ other there. ⊎_elim (λ here. omega (arith, head, same, here)) (λ later. let le = least.rest other later in omega (arith, le, same)) there,
    )

-- ---- the first of some samples

-- a number at a sample is the first from a sample on, of so many, or there is none
record IsFirstFrom (at : ℕ → List ℕ) (start count sample signal : ℕ) : Type 0 where
  from : start ≤ sample
  within : sample < start + count
  lowest : Lowest (at sample) signal
  before : (earlier other : ℕ) → start ≤ earlier → earlier < sample → IsOneOf other (at earlier) → ⊥

FirstFrom : (ℕ → List ℕ) → ℕ → ℕ → Option (ℕ × ℕ) → Type 0
FirstFrom at start count None = (sample signal : ℕ) → start ≤ sample → sample < start + count → IsOneOf signal (at sample) → ⊥
FirstFrom at start count (Some (sample, signal)) = IsFirstFrom at start count sample signal

first-is : (at : ℕ → List ℕ) (start count : ℕ) → FirstFrom at start count (first_from at start count)
unfolding FirstFrom
first-is at start zero = λ sample signal from within there. absurd (omega (arith, from, within))
first-is at start (suc count) = by (lowest None (at start)) refl (first_from at (start + 1) count) (first-is at (start + 1) count)
  where
    -- a sample is the first one, or a later one
    split : (sample : ℕ) → start ≤ sample → (sample ≡ start) ⊎ (start + 1 ≤ sample)
    split sample from = ⊎_elim (λ more. inr (omega (arith, more))) (λ less. inl (let same : sample ≡ start = omega (arith, less, from) in same)) (cases_lt start sample)

    by : (here : Option ℕ) → lowest None (at start) ≡ here → (later : Option (ℕ × ℕ)) → FirstFrom at (start + 1) count later
        → FirstFrom at start (suc count) (first_of start here later)
    by (Some signal) is later rest = record {
      from = omega arith;
      within = omega arith;
      lowest = one-there (at start) signal is;
      before = λ earlier other from less. absurd (omega (arith, from, less));
    }
    by None is None rest = λ sample signal from within there.
        ⊎_elim (λ same. none-there (at start) is signal (subst (λ n. IsOneOf signal (at n)) same there))
        (λ more. rest sample signal more (omega (arith, within)) there) (split sample from)
    by None is (Some (sample, signal)) rest =
        let from = rest.from in
        let within = rest.within in
        record {
          from = omega (arith, from);
          within = omega (arith, within);
          lowest = rest.lowest;
          before = λ earlier other low less there.
              ⊎_elim (λ same. none-there (at start) is other (subst (λ n. IsOneOf other (at n)) same there))
              (λ more. rest.before earlier other more less there) (split earlier low);
        }

-- ---- of a recording

module _ (design : Design) (recording : Sampled) (valuations : ℕ → List Bool) where
  at : ℕ → List ℕ
  at sample = leaving design recording valuations sample

  from-all : (found : Option (ℕ × ℕ)) → FirstFrom at 0 (length recording.samples) found → LeavesFirst design recording valuations found
  unfolding FirstFrom Lowest at
  from-all None none = λ sample signal within there. none sample signal (omega arith) (omega (arith, within)) there
  from-all (Some (sample, signal)) first =
      let within = first.within in
      record {
        within = omega (arith, within);
        leaves = first.lowest.0;
        lowest = first.lowest.1;
        before = λ earlier other less there. first.before earlier other (omega arith) less there;
      }

  -- the search finds where a recording leaves a netlist
  pub leaves-first : LeavesFirst design recording valuations (leaves design recording valuations)
  unfolding at
  leaves-first = from-all (leaves design recording valuations) (first-is (leaving design recording valuations) 0 (length recording.samples))

  -- and there is nothing else that is so
  pub first-one : (one other : Option (ℕ × ℕ)) → LeavesFirst design recording valuations one → LeavesFirst design recording valuations other → one ≡ other
  first-one None None first second = refl
  first-one None (Some (sample, signal)) first second = absurd (first sample signal second.within second.leaves)
  first-one (Some (sample, signal)) None first second = absurd (second sample signal first.within first.leaves)
  first-one (Some (sample, signal)) (Some (place, number)) first second =
      ⊎_elim (λ less. absurd (second.before sample signal less first.leaves))
      (λ more. ⊎_elim (λ less. absurd (first.before place number less second.leaves))
      (λ least. same-place (let same : place ≡ sample = omega (arith, more, least) in same) second) (cases_lt place sample))
      (cases_lt sample place)
    where
      same-place : place ≡ sample → IsFirst design recording valuations place number → ◌≡◌ {A = Option (ℕ × ℕ)} (Some (sample, signal)) (Some (place, number))
      same-place same there =
          let here = subst (λ n. IsFirst design recording valuations n number) same there in
          let low = here.lowest signal first.leaves in
          let high = first.lowest number here.leaves in
          let equal : signal ≡ number = omega (arith, low, high) in
          ap (λ (n : ℕ). let pair : ℕ × ℕ = (sample, n) in Some pair) equal ∙ ap (λ (n : ℕ). let pair : ℕ × ℕ = (n, number) in Some pair) (sym same)
