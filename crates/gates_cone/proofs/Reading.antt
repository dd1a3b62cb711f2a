-- What is read where outputs are in a cone.
use Rattle.std.proofs.Common.{◌≡◌, ℕ, zero, suc, ◌<◌, ◌==◌, Bool, true, false, ◌&&◌, ◌||◌, ◌⊎◌, List, [], ◌∷◌, length, get_or, refl, ap, ◌∙◌, subst, sym, inl, inr, ⊎_elim, arith}
use Rattle.std.specs.Bool.{IsTrue}
use Rattle.std.specs.List.{list_any}
use Rattle.std.proofs.lemmas.Bool.{and_parts, cases_Bool, eq-eqb, eqb-true, false≢true}
use Rattle.std.proofs.lemmas.List.{get_or_default}
use Rattle.netlist.specs.declared.latch.Latch.{Latch}
use Rattle.netlist.specs.declared.table.Table.{Table}
use Rattle.netlist.specs.Design.{Design}
use Rattle.netlist.specs.Sound.{no_table, table_at}
use Rattle.gates_frames.specs.Frames.{Cone, IsClosed}
use Rattle.gates_cone.specs.Cones.{IsIn}
use Rattle.gates_cone.specs.Drivers.{latch_at, no_latch}
use Rattle.gates_cone.specs.Fed.{is_read}

-- an element that passes a test
pub some-at : {X : Type 0} (p : X → Bool) (xs : List X) (d : X) → list_any p xs ≡ true → (i : ℕ) × (i < length xs) × (p (get_or xs i d) ≡ true)
some-at p [] d any = absurd (false≢true any)
some-at p (x ∷ xs) d any = elim (cases_Bool (p x)) [
  | inl here ↦ (0, omega arith, here)
  | inr fails ↦ let rest = some-at p xs d (subst (λ b. (b || list_any p xs) ≡ true) fails any) in (suc rest.0, omega (arith, rest.1), rest.2)
]

pub or-right : (a b : Bool) → b ≡ true → (a || b) ≡ true
or-right false b is = is
or-right true b is = refl

pub at-some : {X : Type 0} (p : X → Bool) (xs : List X) (i : ℕ) (d : X) → i < length xs → p (get_or xs i d) ≡ true → list_any p xs ≡ true
at-some p [] i d lt is = absurd (omega arith)
at-some p (x ∷ xs) zero d lt is = ap (λ b. b || list_any p xs) is
at-some p (x ∷ xs) (suc i) d lt is = or-right (p x) (list_any p xs) (at-some p xs i d (omega arith) is)

pub either-of : (a b : Bool) → (a || b) ≡ true → (a ≡ true) ⊎ (b ≡ true)
either-of false b is = inr is
either-of true b is = inl refl

both : (a b : Bool) → a ≡ true → b ≡ true → (a && b) ≡ true
both a b one two = ap (λ x. x && b) one ∙ two

-- a table whose output is in a cone reads a signal, or a latch does
pub record TableReads (design : Design) (cone : Cone) (signal : ℕ) : Type 0 where
  pub table : ℕ
  pub within : table < length design.tables
  pub output : IsTrue (cone (table_at design.tables table).output)
  pub place : ℕ
  pub inside : place < length (table_at design.tables table).inputs
  pub is : get_or (table_at design.tables table).inputs place 0 ≡ signal

pub record LatchReads (design : Design) (cone : Cone) (signal : ℕ) : Type 0 where
  pub latch : ℕ
  pub within : latch < length design.latches
  pub output : IsTrue (cone (latch_at design.latches latch).output)
  pub is : (latch_at design.latches latch).input ≡ signal

module _ (design : Design) (cone : Cone) (signal : ℕ) where
  abbrev table_test : Table → Bool
  table_test table = cone table.output && list_any (λ input. input == signal) table.inputs

  abbrev latch_test : Latch → Bool
  latch_test latch = cone latch.output && (latch.input == signal)

  pub read-from : IsTrue (is_read design cone signal) → TableReads design cone signal ⊎ LatchReads design cone signal
  read-from is = ⊎_elim
      (λ some. inl (of_table (some-at table_test design.tables no_table some)))
      (λ some. inr (of_latch (some-at latch_test design.latches no_latch some)))
      (either-of (list_any table_test design.tables) (list_any latch_test design.latches) is)
    where
      of_table : (i : ℕ) × (i < length design.tables) × (table_test (table_at design.tables i) ≡ true) → TableReads design cone signal
      of_table at =
          let table = table_at design.tables at.0 in
          let parts = and_parts (cone table.output) (list_any (λ input. input == signal) table.inputs) at.2 in
          let input = some-at (λ input. input == signal) table.inputs 0 parts.1 in
          record { table = at.0; within = at.1; output = parts.0; place = input.0; inside = input.1; is = eqb-true (get_or table.inputs input.0 0) signal input.2 }

      of_latch : (i : ℕ) × (i < length design.latches) × (latch_test (latch_at design.latches i) ≡ true) → LatchReads design cone signal
      of_latch at =
          let latch = latch_at design.latches at.0 in
          let parts = and_parts (cone latch.output) (latch.input == signal) at.2 in
          record { latch = at.0; within = at.1; output = parts.0; is = eqb-true latch.input signal parts.1 }

  pub read-by_table : TableReads design cone signal → IsTrue (is_read design cone signal)
  read-by_table reads =
      let table = table_at design.tables reads.table in
      let input : list_any (λ input. input == signal) table.inputs ≡ true = at-some (λ input. input == signal) table.inputs reads.place 0 reads.inside (eq-eqb (get_or table.inputs reads.place 0) signal reads.is) in
      ap (λ b. b || list_any latch_test design.latches)
      (at-some table_test design.tables reads.table no_table reads.within (both (cone table.output) (list_any (λ input. input == signal) table.inputs) reads.output input))

  pub read-by_latch : LatchReads design cone signal → IsTrue (is_read design cone signal)
  read-by_latch reads =
      let latch = latch_at design.latches reads.latch in
      or-right (list_any table_test design.tables) (list_any latch_test design.latches)
      (at-some latch_test design.latches reads.latch no_latch reads.within (both (cone latch.output) (latch.input == signal) reads.output (eq-eqb latch.input signal reads.is)))

-- a larger cone reads more, and a closed one nothing more
pub read-more : (design : Design) (cone other : Cone) → IsIn cone other → IsIn (is_read design cone) (is_read design other)
read-more design cone other inside signal is = ⊎_elim
    (λ reads. read-by_table design other signal (record {
      table = reads.table;
      within = reads.within;
      output = inside (table_at design.tables reads.table).output reads.output;
      place = reads.place;
      inside = reads.inside;
      is = reads.is;
    }))
    (λ reads. read-by_latch design other signal (record {
      latch = reads.latch;
      within = reads.within;
      output = inside (latch_at design.latches reads.latch).output reads.output;
      is = reads.is;
    }))
    (read-from design cone signal is)

pub read-closed : (design : Design) (cone : Cone) → IsClosed design cone → IsIn (is_read design cone) cone
read-closed design cone closed signal is = ⊎_elim
    (λ reads. subst (λ s. IsTrue (cone s)) reads.is (closed.tables reads.table no_table reads.within reads.output reads.place 0 reads.inside))
    (λ reads. subst (λ s. IsTrue (cone s)) reads.is (closed.latches reads.latch no_latch reads.within reads.output))
    (read-from design cone signal is)

pub closed-from : (design : Design) (cone : Cone) → IsIn (is_read design cone) cone → IsClosed design cone
closed-from design cone inside = record {
  tables = λ i d lt is place e below.
      (let same : get_or design.tables i d ≡ table_at design.tables i = get_or_default design.tables i d no_table lt in
      let inputs : (get_or design.tables i d).inputs ≡ (table_at design.tables i).inputs = ap (λ (t : Table). t.inputs) same in
      inside (get_or (get_or design.tables i d).inputs place e) (read-by_table design cone (get_or (get_or design.tables i d).inputs place e) (record {
        table = i;
        within = lt;
        output = subst (λ (t : Table). IsTrue (cone t.output)) same is;
        place = place;
        inside = subst (λ (l : List ℕ). place < length l) inputs below;
        is = ap (λ (l : List ℕ). get_or l place 0) (sym inputs) ∙ get_or_default (get_or design.tables i d).inputs place 0 e below;
      })));
  latches = λ i d lt is.
      (let same : get_or design.latches i d ≡ latch_at design.latches i = get_or_default design.latches i d no_latch lt in
      inside (get_or design.latches i d).input (read-by_latch design cone (get_or design.latches i d).input (record {
        latch = i;
        within = lt;
        output = subst (λ (l : Latch). IsTrue (cone l.output)) same is;
        is = sym (ap (λ (l : Latch). l.input) same);
      })));
}
