-- What feeds the kept signals, as far as they were looked at.
use Rattle.std.proofs.Common.{◌≡◌, ℕ, ◌+◌, ◌<◌, ◌≤◌, Bool, false, replicate, List, [], ◌∷◌, length, get_or, sym, ap, ◌∙◌, subst, ⊎_elim, arith, length-append}
use Rattle.std.specs.Bool.{IsTrue}
use Rattle.std.proofs.lemmas.Bool.{cases_lt}
use Rattle.std.proofs.lemmas.List.{get_or_append_left, get_or_default}
use Rattle.netlist.specs.declared.latch.Latch.{Latch}
use Rattle.netlist.specs.declared.table.Table.{Table}
use Rattle.netlist.specs.Design.{Design}
use Rattle.netlist.specs.Sound.{no_table, table_at}
use Rattle.netlist.specs.Valuations.{bit}
use Rattle.gates_frames.specs.Frames.{Cone, IsClosed}
use Rattle.gates_cone.specs.declared.drivers.Driver.{Driver}
use Rattle.gates_cone.specs.declared.drivers.Driver.TheVariants as kinds
use Rattle.gates_cone.specs.Cones.{HasAll, IsIn, IsLeast}
use Rattle.gates_cone.specs.Drivers.{AreDrivers, driver_at, Drives, latch_at, no_latch, reads_of}
use Rattle.gates_cone.specs.Keeping.{AreListed, GoesOn, Keeps, Spreads}
use Rattle.gates_cone.proofs.Kept.{none-kept}

module _ (design : Design) (all : List Driver) where
  abbrev pub reads_by : ℕ → List ℕ
  reads_by signal = reads_of design (driver_at all signal)

  -- the first so many signals that were found have been looked at
  pub record SoFar (first kept : List Bool) (found : List ℕ) (next : ℕ) : Type 0 where
    pub size : length kept ≡ design.signals
    pub listed : AreListed kept found
    pub reached : next ≤ length found
    pub stay : IsIn (bit first) (bit kept)
    pub done : (place : ℕ) → place < next → HasAll (bit kept) (reads_by (get_or found place 0))
    pub only : (other : Cone) → IsClosed design other → IsIn (bit first) other → IsIn (bit kept) other

  pub so_far-none : (kept : List Bool) (found : List ℕ) → length kept ≡ design.signals → AreListed kept found → SoFar kept kept found 0
  so_far-none kept found size listed = record {
    size = size;
    listed = listed;
    reached = omega arith;
    stay = λ signal is. is;
    done = λ place below. absurd (omega arith);
    only = λ other closed inside. inside;
  }

  -- a closed cone has what the driver of one of its signals reads
  reads-closed : (other : Cone) (signal : ℕ) (driver : Driver) → IsClosed design other → IsTrue (other signal) → Drives design signal driver → HasAll other (reads_of design driver)
  reads-closed other signal kinds.Input closed is drives = λ k d lt. absurd (omega arith)
  reads-closed other signal (kinds.Latch number) closed is drives =
      let input : IsTrue (other (latch_at design.latches number).input) = closed.latches number no_latch drives.0 (subst (λ s. IsTrue (other s)) (sym drives.1) is) in
      λ k d lt. (let zeroth : k ≡ 0 = omega arith in subst (λ i. IsTrue (other (get_or ((latch_at design.latches number).input ∷ []) i d))) (sym zeroth) input)
  reads-closed other signal (kinds.Table number) closed is drives = closed.tables number no_table drives.0 (subst (λ s. IsTrue (other s)) (sym drives.1) is)

  pub so_far-next : (first kept new : List Bool) (found more : List ℕ) (next : ℕ) → AreDrivers design all → next < length found → length new ≡ length kept → SoFar first kept found next
      → Keeps kept new (reads_by (get_or found next 0)) → AreListed new more → GoesOn found more → SoFar first new more (next + 1)
  so_far-next first kept new found more next are lt same before keeps listed goes = record {
    size = same ∙ before.size;
    listed = listed;
    reached = omega (arith, ap (λ (l : List ℕ). length l) goes.is, length-append found goes.more);
    stay = λ signal is. keeps.stay signal (before.stay signal is);
    done = λ place below.
        (let here : get_or more place 0 ≡ get_or found place 0 = ap (λ (l : List ℕ). get_or l place 0) goes.is ∙ get_or_append_left found goes.more 0 place (omega arith) in
        subst (λ signal. HasAll (bit new) (reads_by signal)) (sym here)
        (⊎_elim
        (λ earlier. (λ k d inside. keeps.stay (get_or (reads_by (get_or found place 0)) k d) (before.done place earlier k d inside)))
        (λ now. (let is : next ≡ place = omega arith in subst (λ p. HasAll (bit new) (reads_by (get_or found p 0))) is keeps.has))
        (cases_lt place next)));
    only = λ other closed inside.
        (let old = before.only other closed inside in
        keeps.only other old
        (reads-closed other (get_or found next 0) (driver_at all (get_or found next 0)) closed (old (get_or found next 0) (before.listed.are next 0 lt)) (are.drive (get_or found next 0))));
  }

  -- all of them
  reads-kept : (first kept : List Bool) (found : List ℕ) (next signal : ℕ) → length found ≤ next → SoFar first kept found next → IsTrue (bit kept signal) → HasAll (bit kept) (reads_by signal)
  reads-kept first kept found next signal end so_far is =
      let at = so_far.listed.each signal is in
      let same : get_or found at.0 0 ≡ signal = get_or_default found at.0 0 signal at.1 ∙ at.2 in
      subst (λ s. HasAll (bit kept) (reads_by s)) same (so_far.done at.0 (omega (arith, at.1)))

  pub spreads : (first kept : List Bool) (found : List ℕ) (next : ℕ) → AreDrivers design all → length found ≤ next → SoFar first kept found next → Spreads design first kept
  spreads first kept found next are end so_far = record {
    stay = so_far.stay;
    closed = record {
      tables = λ number d lt is.
          (let same : get_or design.tables number d ≡ table_at design.tables number = get_or_default design.tables number d no_table lt in
          let here = reads-kept first kept found next (table_at design.tables number).output end so_far (subst (λ (t : Table). IsTrue (bit kept t.output)) same is) in
          subst (λ (t : Table). HasAll (bit kept) t.inputs) (sym same)
          (subst (λ driver. HasAll (bit kept) (reads_of design driver)) (are.of_tables number lt) here));
      latches = λ number d lt is.
          (let same : get_or design.latches number d ≡ latch_at design.latches number = get_or_default design.latches number d no_latch lt in
          let here = reads-kept first kept found next (latch_at design.latches number).output end so_far (subst (λ (l : Latch). IsTrue (bit kept l.output)) same is) in
          let reads : HasAll (bit kept) ((latch_at design.latches number).input ∷ []) = subst (λ driver. HasAll (bit kept) (reads_of design driver)) (are.of_latches number lt) here in
          subst (λ (l : Latch). IsTrue (bit kept l.input)) (sym same) (reads 0 0 (omega arith)));
    };
    only = so_far.only;
  }

-- from no signal, by some signals and what feeds them
pub least-from : (design : Design) (signals : List ℕ) (count : ℕ) (none first second kept shown : List Bool) → none ≡ replicate count false → Keeps none first signals → second ≡ first
    → Spreads design second kept → shown ≡ kept → IsLeast design signals (bit shown)
least-from design signals count none first second kept shown none_is keeps second_is spreads shown_is =
    subst (λ bits. IsLeast design signals (bit bits)) (sym shown_is) (least (subst (λ bits. Spreads design bits kept) second_is spreads))
  where
    least : Spreads design first kept → IsLeast design signals (bit kept)
    least all = record {
      has = λ k d lt. all.stay (get_or signals k d) (keeps.has k d lt);
      closed = all.closed;
      least = λ other closed has.
          all.only other closed (keeps.only other (λ signal is. absurd (none-kept count signal (subst (λ bits. IsTrue (bit bits signal)) none_is is))) has);
    }
