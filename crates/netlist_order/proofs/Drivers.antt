-- The first table that drives a signal.
use Rattle.std.proofs.Common.{◌≡◌, replicate, ℕ, zero, suc, ◌+◌, ◌<◌, ◌==◌, true, eqb, cond, List, [], ◌∷◌, length, get_or, drop, Option, None, Some, sym, ap, ◌∙◌, subst, inl, inr, ⊎_elim, arith, drop-cons}
use Rattle.std.proofs.Math.ListN.{set}
use Rattle.std.specs.List.{position_from}
use Rattle.std.proofs.lemmas.Bool.{cases_Bool, cases_lt, eqb-true, eqb-false, eq-eqb}
use Rattle.std.proofs.lemmas.List.{get_or-set_same, get_or-set_other, get_or_default, get_or-replicate, get_or_past, length-replicate, drop_all}
use Rattle.netlist.specs.declared.table.Table.{Table}
use Rattle.netlist.specs.Sound.{no_table, table_at}

abbrev pub first_from : List Table → ℕ → ℕ → Option ℕ
first_from tables start signal = position_from (λ table. table.output == signal) start tables

-- the place of the first table that drives a signal
pub first-at : (tables : List Table) (signal start k : ℕ) → k < length tables → (table_at tables k).output ≡ signal
    → ((j : ℕ) → j < k → (table_at tables j).output ≡ signal → ⊥) → first_from tables start signal ≡ Some (start + k)
first-at [] signal start k lt is none = absurd (omega arith)
first-at (table ∷ tables) signal start zero lt is none =
    let here : eqb table.output signal ≡ true = eq-eqb table.output signal is in
    let at : start ≡ start + 0 = omega arith in
    ap (λ b. cond b (Some start) (first_from tables (start + 1) signal)) here ∙ ap Some at
first-at (table ∷ tables) signal start (suc k) lt is none =
    elim (cases_Bool (eqb table.output signal)) [
      | inl same ↦ absurd (none 0 (omega arith) (eqb-true table.output signal same))
      | inr other ↦
          let at : start + 1 + k ≡ start + suc k = omega arith in
          ap (λ b. cond b (Some start) (first_from tables (start + 1) signal)) other
          ∙ first-at tables signal (start + 1) k (omega arith) is (λ j below same. none (suc j) (omega arith) same)
          ∙ ap Some at
    ]

-- one table more, in front
pub first-before : (tables : List Table) (left signal : ℕ) → left < length tables
    → first_from (drop left tables) left signal ≡ cond (eqb (table_at tables left).output signal) (Some left) (first_from (drop (left + 1) tables) (left + 1) signal)
first-before tables left signal lt =
    let next : suc left ≡ left + 1 = omega arith in
    ap (λ (more : List Table). first_from more left signal) (drop-cons tables left no_table lt)
    ∙ ap (λ n. cond (eqb (table_at tables left).output signal) (Some left) (first_from (drop n tables) (left + 1) signal)) next

-- and its signal has it as its driver
pub with-driver : (drivers : List (Option ℕ)) (output table signal : ℕ) → output < length drivers
    → get_or (set drivers output (Some table)) signal None ≡ cond (eqb output signal) (Some table) (get_or drivers signal None)
with-driver drivers output table signal lt =
    elim (cases_Bool (eqb output signal)) [
      | inl same ↦
          ap (λ k. get_or (set drivers output (Some table)) k None) (sym (eqb-true output signal same))
          ∙ get_or-set_same drivers output (Some table) None lt
          ∙ ap (λ b. cond b (Some table) (get_or drivers signal None)) (sym same)
      | inr other ↦
          get_or-set_other drivers output signal (Some table) None (λ is. eqb-false output signal other (sym is))
          ∙ ap (λ b. cond b (Some table) (get_or drivers signal None)) (sym other)
    ]

pub next-driver : (tables : List Table) (drivers : List (Option ℕ)) (left signal : ℕ) → left < length tables → (table_at tables left).output < length drivers
    → get_or drivers signal None ≡ first_from (drop (left + 1) tables) (left + 1) signal
    → get_or (set drivers (table_at tables left).output (Some left)) signal None ≡ first_from (drop left tables) left signal
next-driver tables drivers left signal lt within is =
    with-driver drivers (table_at tables left).output left signal within
    ∙ ap (cond (eqb (table_at tables left).output signal) (Some left)) is
    ∙ sym (first-before tables left signal lt)

-- the same, where the table before is read with some default
pub drivers-next : (tables : List Table) (drivers : List (Option ℕ)) (left more : ℕ) (d : Table) → more ≡ left + 1 → left < length tables
    → (get_or tables left d).output < length drivers
    → ((signal : ℕ) → get_or drivers signal None ≡ first_from (drop more tables) more signal)
    → (signal : ℕ) → get_or (set drivers (get_or tables left d).output (Some left)) signal None ≡ first_from (drop left tables) left signal
drivers-next tables drivers left more d next lt within is signal =
    let same : get_or tables left d ≡ table_at tables left = get_or_default tables left d no_table lt in
    let there : (table_at tables left).output < length drivers = subst (λ (t : Table). t.output < length drivers) same within in
    let was : get_or drivers signal None ≡ first_from (drop (left + 1) tables) (left + 1) signal =
    subst (λ n. get_or drivers signal None ≡ first_from (drop n tables) n signal) next (is signal) in
    ap (λ (t : Table). get_or (set drivers t.output (Some left)) signal None) same ∙ next-driver tables drivers left signal lt there was

-- where no table is left, none drives a signal
pub drivers-none : (tables : List Table) (drivers : List (Option ℕ)) → ((signal : ℕ) → get_or drivers signal None ≡ None)
    → (signal : ℕ) → get_or drivers signal None ≡ first_from (drop (length tables) tables) (length tables) signal
drivers-none tables drivers none signal =
    let all : drop (length tables) tables ≡ [] = drop_all (length tables) tables (omega arith) in
    none signal ∙ ap (λ (more : List Table). first_from more (length tables) signal) (sym all)

abbrev pub nobody : Option ℕ
nobody = None

pub driver-of-none : (n signal : ℕ) → get_or (replicate n nobody) signal None ≡ nobody
driver-of-none n signal =
    ⊎_elim (λ lt. get_or-replicate n signal None None lt)
    (λ past. get_or_past (replicate n nobody) signal None (omega (arith, length-replicate n nobody)))
    (cases_lt signal n)
