-- Drivers that are noted one behind another.
use Rattle.std.proofs.Common.{◌≡◌, ℕ, ◌+◌, ◌-◌, ◌<◌, ◌≤◌, eqb, List, length, map, get_or, replicate, set, refl, sym, ap, ◌∙◌, subst, inl, inr, ⊎_elim, arith, length-append, length-set, get_or-set_same, get_or-set_other}
use Rattle.std.proofs.lemmas.Bool.{cases_Bool, cases_lt, eqb-true, eqb-false}
use Rattle.std.proofs.lemmas.List.{get_or-append_right, get_or-map, get_or-replicate, get_or_default, get_or_past, length-map, length-replicate}
use Rattle.netlist.specs.declared.latch.Latch.{Latch}
use Rattle.netlist.specs.declared.table.Table.{Table}
use Rattle.netlist.specs.Design.{Design, free_of}
use Rattle.netlist.specs.Sound.{IsSound, no_table, table_at}
use Rattle.netlist.proofs.Driving.{frees-apart, free-apart, latches-within, output-within, outputs-apart}
use Rattle.gates_cone.specs.declared.drivers.Driver.{Driver}
use Rattle.gates_cone.specs.declared.drivers.Driver.TheVariants as kinds
use Rattle.gates_cone.specs.Drivers.{AreNoted, driver_at, Drives, latch_at, no_latch}

-- a signal has a driver that drives it
pub drive-set : (design : Design) (all : List Driver) (signal : ℕ) (driver : Driver) → signal < length all → Drives design signal driver → ((other : ℕ) → Drives design other (driver_at all other))
    → (other : ℕ) → Drives design other (driver_at (set all signal driver) other)
drive-set design all signal driver lt here old other =
    elim (cases_Bool (eqb other signal)) [
      | inl same ↦
          let is = eqb-true other signal same in
          subst (λ s. Drives design s (driver_at (set all signal driver) s)) (sym is) (subst (Drives design signal) (sym (get_or-set_same all signal driver kinds.Input lt)) here)
      | inr differs ↦ subst (Drives design other) (sym (get_or-set_other all signal other driver kinds.Input (eqb-false other signal differs))) (old other)
    ]

pub noted-none : (design : Design) (count : ℕ) → count ≡ design.signals → AreNoted design 0 0 (replicate count kinds.Input)
noted-none design count size = record {
  size = length-replicate count kinds.Input ∙ size;
  drive = λ signal. subst (Drives design signal) (sym (none signal)) tt;
  of_tables = λ number below. absurd (omega arith);
  of_latches = λ number below. absurd (omega arith);
}
  where
    none : (signal : ℕ) → driver_at (replicate count kinds.Input) signal ≡ kinds.Input
    none signal = ⊎_elim (λ lt. get_or-replicate count signal kinds.Input kinds.Input lt)
        (λ past. get_or_past (replicate count kinds.Input) signal kinds.Input (omega (arith, length-replicate count kinds.Input))) (cases_lt signal count)

module _ (design : Design) (sound : IsSound design) where
  noted-table : (number : ℕ) (all : List Driver) → number < length design.tables → AreNoted design number 0 all
      → AreNoted design (number + 1) 0 (set all (table_at design.tables number).output (kinds.Table number))
  noted-table number all lt noted =
      let inside : (table_at design.tables number).output < length all = omega (arith, output-within design sound number lt, noted.size) in
      record {
        size = length-set all (table_at design.tables number).output (kinds.Table number) ∙ noted.size;
        drive = drive-set design all (table_at design.tables number).output (kinds.Table number) inside (lt, refl) noted.drive;
        of_tables = λ other below.
            ⊎_elim
            (λ before.
            get_or-set_other all (table_at design.tables number).output (table_at design.tables other).output (kinds.Table number) kinds.Input
            (λ same. (let is = outputs-apart design sound other number (omega arith) lt same in omega arith))
            ∙ noted.of_tables other before)
            (λ here. (let is : number ≡ other = omega arith in
            subst (λ n. driver_at (set all (table_at design.tables number).output (kinds.Table number)) (table_at design.tables n).output ≡ kinds.Table n) is
            (get_or-set_same all (table_at design.tables number).output (kinds.Table number) kinds.Input inside)))
            (cases_lt other number);
        of_latches = λ other below. absurd (omega arith);
      }

  -- a table or a latch that is read with some default
  pub table-shown : (number : ℕ) (shown : List Table) (d : Table) → number < length design.tables → shown ≡ design.tables → get_or shown number d ≡ table_at design.tables number
  table-shown number shown d lt shown_is = ap (λ ts. get_or ts number d) shown_is ∙ get_or_default design.tables number d no_table lt

  pub table-inside : (number : ℕ) (all : List Driver) (shown : List Table) (d : Table) → number < length design.tables → shown ≡ design.tables → length all ≡ design.signals
      → (get_or shown number d).output < length all
  table-inside number all shown d lt shown_is size =
      let same = ap (λ (t : Table). t.output) (table-shown number shown d lt shown_is) in
      omega (arith, same, output-within design sound number lt)

  pub noted-table_read : (number : ℕ) (all : List Driver) (shown : List Table) (d : Table) → number < length design.tables → shown ≡ design.tables
      → AreNoted design number 0 all → AreNoted design (number + 1) 0 (set all (get_or shown number d).output (kinds.Table number))
  noted-table_read number all shown d lt shown_is noted =
      subst (λ (t : Table). AreNoted design (number + 1) 0 (set all t.output (kinds.Table number))) (sym (table-shown number shown d lt shown_is)) (noted-table number all lt noted)

  pub latch-shown : (number : ℕ) (shown : List Latch) (d : Latch) → number < length design.latches → shown ≡ design.latches → get_or shown number d ≡ latch_at design.latches number
  latch-shown number shown d lt shown_is = ap (λ ls. get_or ls number d) shown_is ∙ get_or_default design.latches number d no_latch lt

  pub latch-inside : (number : ℕ) (all : List Driver) (shown : List Latch) (d : Latch) → number < length design.latches → shown ≡ design.latches → length all ≡ design.signals
      → (get_or shown number d).output < length all
  latch-inside number all shown d lt shown_is size =
      let same = ap (λ (l : Latch). l.output) (latch-shown number shown d lt shown_is) in
      omega (arith, same, latches-within design sound number no_latch lt)

  -- where the output of a latch stands among the free signals
  latch-place : (number : ℕ) → number < length design.latches → get_or (free_of design) (length design.inputs + number) 0 ≡ (latch_at design.latches number).output
  latch-place number lt =
      let behind : length design.inputs ≤ length design.inputs + number = omega arith in
      let back : length design.inputs + number - length design.inputs ≡ number = omega arith in
      get_or-append_right design.inputs (map (λ (l : Latch). l.output) design.latches) (length design.inputs) (length design.inputs + number) 0 refl behind
      ∙ ap (λ place. get_or (map (λ (l : Latch). l.output) design.latches) place 0) back
      ∙ get_or-map (λ (l : Latch). l.output) design.latches number no_latch 0 lt

  free-size : length (free_of design) ≡ length design.inputs + length design.latches
  free-size = length-append design.inputs (map (λ (l : Latch). l.output) design.latches) ∙ ap (λ n. length design.inputs + n) (length-map design.latches (λ (l : Latch). l.output))

  noted-latch : (number : ℕ) (all : List Driver) → number < length design.latches → AreNoted design (length design.tables) number all
      → AreNoted design (length design.tables) (number + 1) (set all (latch_at design.latches number).output (kinds.Latch number))
  noted-latch number all lt noted =
      let inside : (latch_at design.latches number).output < length all = omega (arith, latches-within design sound number no_latch lt, noted.size) in
      record {
        size = length-set all (latch_at design.latches number).output (kinds.Latch number) ∙ noted.size;
        drive = drive-set design all (latch_at design.latches number).output (kinds.Latch number) inside (lt, refl) noted.drive;
        of_tables = λ other below.
            get_or-set_other all (latch_at design.latches number).output (table_at design.tables other).output (kinds.Latch number) kinds.Input
            (λ same. free-apart design sound other (length design.inputs + number) below (omega (arith, free-size)) (latch-place number lt ∙ sym same))
            ∙ noted.of_tables other below;
        of_latches = λ other below.
            ⊎_elim
            (λ before.
            get_or-set_other all (latch_at design.latches number).output (latch_at design.latches other).output (kinds.Latch number) kinds.Input
            (λ same.
            (let other_in : other < length design.latches = omega arith in
            let is = frees-apart design sound (length design.inputs + other) (length design.inputs + number) (omega (arith, free-size)) (omega (arith, free-size))
            (latch-place other other_in ∙ same ∙ sym (latch-place number lt)) in
            omega arith))
            ∙ noted.of_latches other before)
            (λ here. (let is : number ≡ other = omega arith in
            subst (λ n. driver_at (set all (latch_at design.latches number).output (kinds.Latch number)) (latch_at design.latches n).output ≡ kinds.Latch n) is
            (get_or-set_same all (latch_at design.latches number).output (kinds.Latch number) kinds.Input inside)))
            (cases_lt other number);
      }

  pub noted-latch_read : (number : ℕ) (all : List Driver) (shown : List Latch) (d : Latch) → number < length design.latches → shown ≡ design.latches
      → AreNoted design (length design.tables) number all → AreNoted design (length design.tables) (number + 1) (set all (get_or shown number d).output (kinds.Latch number))
  noted-latch_read number all shown d lt shown_is noted =
      subst (λ (l : Latch). AreNoted design (length design.tables) (number + 1) (set all l.output (kinds.Latch number))) (sym (latch-shown number shown d lt shown_is)) (noted-latch number all lt noted)
