-- What drives a signal, and which signals are apart.
use Rattle.std.proofs.Common.{◌≡◌, ℕ, ◌+◌, ◌-◌, ◌<◌, ◌≤◌, ◌⊎◌, List, ◌++◌, length, map, get_or, refl, sym, ap, ◌∙◌, inl, inr, arith, length-append}
use Rattle.std.specs.Prelude.{All, Contains}
use Rattle.std.proofs.lemmas.Bool.{cases_lt}
use Rattle.std.proofs.lemmas.List.{length-map, get_or_append_left, get_or-append_right, get_or_default, get_or-map}
use Rattle.netlist.specs.declared.table.Table.{Table}
use Rattle.netlist.specs.Design.{Design, free_of, driven_signals}
use Rattle.netlist.specs.Sound.{AreApart, IsSound, no_table, table_at}

-- a number that the list has, at a place
pub record Occurs (number : ℕ) (numbers : List ℕ) : Type 0 where
  pub place : ℕ
  pub within : place < length numbers
  pub is : get_or numbers place 0 ≡ number

pub occurs-from : (numbers : List ℕ) (number : ℕ) → Contains numbers number → Occurs number numbers
occurs-from numbers number (place, within, is) = record {
  place = place;
  within = within;
  is = get_or_default numbers place 0 number within ∙ is;
}

pub contains-from : (numbers : List ℕ) (number : ℕ) → Occurs number numbers → Contains numbers number
contains-from numbers number found = (found.place, found.within, get_or_default numbers found.place number 0 found.within ∙ found.is)

-- a table that drives a signal
pub record Drives (tables : List Table) (signal : ℕ) : Type 0 where
  pub table : ℕ
  pub within : table < length tables
  pub is : (table_at tables table).output ≡ signal

-- the output of a table in the list of driven signals
pub driven-output : (free : List ℕ) (tables : List Table) (table : ℕ) → table < length tables
    → get_or (free ++ map (λ t. t.output) tables) (length free + table) 0 ≡ (table_at tables table).output
driven-output free tables table within =
    let behind : length free ≤ length free + table = omega arith in
    let back : length free + table - length free ≡ table = omega arith in
    get_or-append_right free (map (λ t. t.output) tables) (length free) (length free + table) 0 refl behind
    ∙ ap (λ place. get_or (map (λ t. t.output) tables) place 0) back
    ∙ get_or-map (λ t. t.output) tables table no_table 0 within

length-driven : (free : List ℕ) (tables : List Table) → length (free ++ map (λ t. t.output) tables) ≡ length free + length tables
length-driven free tables = length-append free (map (λ t. t.output) tables) ∙ ap (λ n. length free + n) (length-map tables (λ t. t.output))

-- each signal is free, or a table drives it
pub driver-of : (design : Design) → IsSound design → (signal : ℕ) → signal < design.signals → Occurs signal (free_of design) ⊎ Drives design.tables signal
driver-of design sound signal within =
    let driven = occurs-from (driven_signals design.inputs design.latches design.tables) signal (sound.each signal within) in
    by-place driven (cases_lt driven.place (length (free_of design)))
  where
    by-place : (driven : Occurs signal (driven_signals design.inputs design.latches design.tables))
        → (driven.place < length (free_of design)) ⊎ (length (free_of design) ≤ driven.place)
        → Occurs signal (free_of design) ⊎ Drives design.tables signal
    by-place driven (inl front) = inl (record {
      place = driven.place;
      within = front;
      is = sym (get_or_append_left (free_of design) (map (λ t. t.output) design.tables) 0 driven.place front) ∙ driven.is;
    })
    by-place driven (inr back) =
        let table = driven.place - length (free_of design) in
        let listed : table < length design.tables = omega (arith, driven.within, length-driven (free_of design) design.tables) in
        let place : length (free_of design) + table ≡ driven.place = omega arith in
        inr (record {
          table = table;
          within = listed;
          is = sym (driven-output (free_of design) design.tables table listed) ∙ ap (λ at. get_or (driven_signals design.inputs design.latches design.tables) at 0) place ∙ driven.is;
        })

-- no two tables drive one signal
pub outputs-apart : (design : Design) → IsSound design → (t u : ℕ) → t < length design.tables → u < length design.tables
    → (table_at design.tables t).output ≡ (table_at design.tables u).output → t ≡ u
outputs-apart design sound t u t_in u_in same =
    let free = free_of design in
    let size = length-driven free design.tables in
    let at = sound.once (length free + t) (length free + u) (omega arith) (omega arith) (driven-output free design.tables t t_in ∙ same ∙ sym (driven-output free design.tables u u_in)) in
    omega arith

-- no table drives a free signal
pub free-apart : (design : Design) → IsSound design → (t place : ℕ) → t < length design.tables → place < length (free_of design)
    → get_or (free_of design) place 0 ≡ (table_at design.tables t).output → ⊥
free-apart design sound t place t_in place_in same =
    let free = free_of design in
    let size = length-driven free design.tables in
    let front = get_or_append_left free (map (λ table. table.output) design.tables) 0 place place_in in
    let at : place ≡ length free + t = sound.once place (length free + t) (omega arith) (omega arith) (front ∙ same ∙ sym (driven-output free design.tables t t_in)) in
    omega arith

-- the free signals are apart
pub frees-apart : (design : Design) → IsSound design → AreApart (free_of design)
frees-apart design sound i j i_in j_in same =
    let free = free_of design in
    let rest = map (λ table. table.output) design.tables in
    let size = length-driven free design.tables in
    sound.once i j (omega arith) (omega arith) (get_or_append_left free rest 0 i i_in ∙ same ∙ sym (get_or_append_left free rest 0 j j_in))

-- a free signal is a signal
pub free-within : (design : Design) → IsSound design → All (λ signal. signal < design.signals) (free_of design)
free-within design sound place other within =
    let free = free_of design in
    let rest = map (λ table. table.output) design.tables in
    let size = length-driven free design.tables in
    let h = sound.driven place other (omega arith) in
    let e = get_or_append_left free rest other place within in
    omega arith

-- what a table drives is a signal
pub output-within : (design : Design) → IsSound design → (table : ℕ) → table < length design.tables → (table_at design.tables table).output < design.signals
output-within design sound table within =
    let free = free_of design in
    let size = length-driven free design.tables in
    let h = sound.driven (length free + table) 0 (omega arith) in
    let e = driven-output free design.tables table within in
    omega arith

pub inputs-within : (design : Design) → IsSound design → All (λ signal. signal < design.signals) design.inputs
inputs-within design sound place other within =
    let outputs = map (λ latch. latch.output) design.latches in
    let h = free-within design sound place other (omega (arith, length-append design.inputs outputs)) in
    let e = get_or_append_left design.inputs outputs other place within in
    omega arith

pub latches-within : (design : Design) → IsSound design → All (λ latch. latch.output < design.signals) design.latches
latches-within design sound place other within =
    let outputs = map (λ latch. latch.output) design.latches in
    let count = length-map design.latches (λ latch. latch.output) in
    let behind : length design.inputs ≤ length design.inputs + place = omega arith in
    let back : length design.inputs + place - length design.inputs ≡ place = omega arith in
    let h = free-within design sound (length design.inputs + place) 0 (omega (arith, length-append design.inputs outputs)) in
    let e = get_or-append_right design.inputs outputs (length design.inputs) (length design.inputs + place) 0 refl behind in
    let at = ap (λ k. get_or outputs k 0) back ∙ get_or-map (λ latch. latch.output) design.latches place other 0 within in
    omega arith

pub outputs-within : (design : Design) → IsSound design → All (λ table. table.output < design.signals) design.tables
outputs-within design sound place other within =
    let h = output-within design sound place within in
    let e = ap (λ table. table.output) (get_or_default design.tables place no_table other within) in
    omega arith
