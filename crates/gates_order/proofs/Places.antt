-- Numbers that are apart and below a bound are no more than it; and where the table stands that drives a signal.
use Rattle.std.proofs.Common.{◌≡◌, ℕ, zero, suc, ◌+◌, ◌<◌, ◌≤◌, true, false, eqb, cond, List, [], ◌∷◌, length, map, get_or, take, All, Contains, Bool, None, Some, refl, sym, ap, ◌∙◌, subst, ⊎_elim, inl, inr, arith}
use Rattle.std.proofs.lemmas.Bool.{cases_Bool, cases_lt, eqb-true, eqb-false}
use Rattle.std.proofs.lemmas.List.{get_or_default, get_or-take, length-map, get_or-map, length-take-le}
use Rattle.netlist.specs.declared.table.Table.{Table}
use Rattle.netlist.specs.Design.{Design}
use Rattle.netlist.specs.Sound.{AreApart, IsOrder, IsSound, no_table, table_at}
use Rattle.netlist.proofs.Driving.{outputs-apart}
use Rattle.netlist_order.specs.TableGraph.{driver_in}
use Rattle.netlist_order.proofs.Drivers.{first-at, first_from}

-- a function that takes each value but once takes no more values than it may
abbrev pub IsOnce : ℕ → (ℕ → ℕ) → Type 0
IsOnce count f = (i j : ℕ) → i < count → j < count → f i ≡ f j → i ≡ j

-- another value in place of one
abbrev swapped : ℕ → ℕ → (ℕ → ℕ) → ℕ → ℕ
swapped value other f i = cond (eqb (f i) value) other (f i)

pub few-values : (bound count : ℕ) (f : ℕ → ℕ) → ((i : ℕ) → i < count → f i < bound) → IsOnce count f → count ≤ bound
few-values bound zero f below once = omega arith
few-values zero (suc count) f below once = absurd (omega (arith, below 0 (omega arith)))
few-values (suc bound) (suc count) f below once =
    let fewer : count ≤ bound = few-values bound count (swapped bound (f count) f) other-below other-once in
    omega arith
  where
    is-last : (i : ℕ) → eqb (f i) bound ≡ true → swapped bound (f count) f i ≡ f count
    is-last i same = ap (λ b. cond b (f count) (f i)) same

    is-own : (i : ℕ) → eqb (f i) bound ≡ false → swapped bound (f count) f i ≡ f i
    is-own i differs = ap (λ b. cond b (f count) (f i)) differs

    last-below : (i : ℕ) → i < count → f i ≡ bound → f count < bound
    last-below i lt is =
        ⊎_elim (λ lt. lt)
        (λ past.
        let top : f count < suc bound = below count (omega arith) in
        let same : i ≡ count = once i count (omega arith) (omega arith) (omega arith) in
        absurd (omega arith))
        (cases_lt (f count) bound)

    own-below : (i : ℕ) → i < count → eqb (f i) bound ≡ false → f i < bound
    own-below i lt differs =
        ⊎_elim (λ lt. lt)
        (λ past.
        let top : f i < suc bound = below i (omega arith) in
        absurd (eqb-false (f i) bound differs (omega arith)))
        (cases_lt (f i) bound)

    other-below : (i : ℕ) → i < count → swapped bound (f count) f i < bound
    other-below i lt =
        elim (cases_Bool (eqb (f i) bound)) [
          | inl same ↦ subst (λ n. n < bound) (sym (is-last i same)) (last-below i lt (eqb-true (f i) bound same))
          | inr differs ↦ subst (λ n. n < bound) (sym (is-own i differs)) (own-below i lt differs)
        ]

    other-once : IsOnce count (swapped bound (f count) f)
    other-once i j i_in j_in same =
        elim (cases_Bool (eqb (f i) bound)) [
          | inl i_top ↦ elim (cases_Bool (eqb (f j) bound)) [
            | inl j_top ↦ once i j (omega arith) (omega arith) (eqb-true (f i) bound i_top ∙ sym (eqb-true (f j) bound j_top))
            | inr j_own ↦ (let e : count ≡ j = once count j (omega arith) (omega arith) (sym (is-last i i_top) ∙ same ∙ is-own j j_own) in absurd (omega arith))
          ]
          | inr i_own ↦ elim (cases_Bool (eqb (f j) bound)) [
            | inl j_top ↦ (let e : i ≡ count = once i count (omega arith) (omega arith) (sym (is-own i i_own) ∙ same ∙ is-last j j_top) in absurd (omega arith))
            | inr j_own ↦ once i j (omega arith) (omega arith) (sym (is-own i i_own) ∙ same ∙ is-own j j_own)
          ]
        ]

pub few-apart : (numbers : List ℕ) (bound : ℕ) → AreApart numbers → All (λ number. number < bound) numbers → length numbers ≤ bound
few-apart numbers bound apart within = few-values bound (length numbers) (λ i. get_or numbers i 0) (λ i lt. within i 0 lt) (λ i j i_in j_in same. apart i j i_in j_in same)

-- the table that drives a signal
pub record Drives (tables : List Table) (signal table : ℕ) : Type 0 where
  pub within : table < length tables
  pub is : (table_at tables table).output ≡ signal

abbrev Found : List Table → ℕ → ℕ → ℕ → Type 0
Found tables signal start table = (k : ℕ) × (table ≡ start + k) × Drives tables signal k

from-first : (tables : List Table) (signal start table : ℕ) → first_from tables start signal ≡ Some table → Found tables signal start table
from-first [] signal start table is = absurd (let e : None ≡ Some table = is in cc)
from-first (t ∷ tables) signal start table is = by_test (eqb t.output signal) refl (from-first tables signal (start + 1) table) is
  where
    by_test : (b : Bool) → eqb t.output signal ≡ b → (first_from tables (start + 1) signal ≡ Some table → Found tables signal (start + 1) table)
        → cond b (Some start) (first_from tables (start + 1) signal) ≡ Some table → Found (t ∷ tables) signal start table
    by_test true same later is =
        let e : start ≡ table = cc in
        (0, omega arith, record { within = omega arith; is = eqb-true t.output signal same })
    by_test false other later is =
        let rest = later is in
        (suc rest.0, omega (arith, rest.1), record { within = omega (arith, rest.2.within); is = rest.2.is })

pub drives-from : (tables : List Table) (signal table : ℕ) → driver_in tables signal ≡ Some table → Drives tables signal table
drives-from tables signal table is =
    let found = from-first tables signal 0 table is in
    let same : found.0 ≡ table = omega (arith, found.1) in
    subst (Drives tables signal) same found.2

pub drives-to : (design : Design) → IsSound design → (table : ℕ) → table < length design.tables → driver_in design.tables (table_at design.tables table).output ≡ Some table
drives-to design sound table lt =
    first-at design.tables (table_at design.tables table).output 0 table lt refl
    (λ j below same. let is : j ≡ table = outputs-apart design sound j table (omega arith) lt same in omega arith)
    ∙ ap Some (let at : 0 + table ≡ table = omega arith in at)

pub apart-outputs : (design : Design) → IsSound design → AreApart (map (λ table. table.output) design.tables)
apart-outputs design sound i j i_in j_in same =
    let size = length-map design.tables (λ table. table.output) in
    outputs-apart design sound i j (omega arith) (omega arith)
    (sym (get_or-map (λ table. table.output) design.tables i no_table 0 (omega arith)) ∙ same ∙ get_or-map (λ table. table.output) design.tables j no_table 0 (omega arith))

-- what a table reads stands before it
pub record StandsBefore (order : List ℕ) (place table : ℕ) : Type 0 where
  pub earlier : ℕ
  pub before : earlier < place
  pub is : get_or order earlier 0 ≡ table

pub driver-before : (tables : List Table) (order : List ℕ) → IsOrder tables order → (place signal table : ℕ) → place < length order
    → Contains (table_at tables (get_or order place 0)).inputs signal → driver_in tables signal ≡ Some table → StandsBefore order place table
driver-before tables order ordered place signal table lt reads drives =
    let driver = drives-from tables signal table drives in
    let there : Contains (take place order) table =
    ordered.after place table lt driver.within (subst (Contains (table_at tables (get_or order place 0)).inputs) (sym driver.is) reads) in
    let size : length (take place order) ≡ place = length-take-le place order (omega arith) in
    let below : there.0 < place = omega (arith, there.1) in
    record {
      earlier = there.0;
      before = below;
      is = sym (get_or-take place order there.0 0 below) ∙ get_or_default (take place order) there.0 0 table there.1 ∙ there.2;
    }
