-- One step of the search.
use Rattle.std.proofs.Common.{◌≡◌, ◌≢◌, ℕ, ◌+◌, ◌-◌, ◌<◌, ◌≤◌, inl, List, [], ◌∷◌, length, get_or, slice_get, Bool, true, false, not, eqb, IsTrue, ◌↔◌, Contains, Option, Some, None, refl, sym, ap, ◌∙◌, subst, ⊎_elim, arith}
use Rattle.std.proofs.lemmas.List.{length_push, length-take, get_or_append_left, get_or_default}
use Rattle.std.proofs.lemmas.Option.{none-some, same_Some, slice_get_within, get_or_from_slice_get, slice_get-get_or}
use Rattle.std.proofs.lemmas.Bool.{cases_lt, false≢true}
use Rattle.std.proofs.lemmas.Bool.Decides.{eqb_tells}
use Rattle.std.specs.Option.{option_eq}
use Rattle.netlist_order.specs.declared.search.Visit.{Visit}
use Rattle.netlist_order.specs.declared.search.Visit.TheVariants.{New, Open, Done}
use Rattle.netlist_order.specs.Graph.{Graph, inputs_of, driver_of, Reads, IsGraph}
use Rattle.netlist_order.specs.State.{State, mark_of, next_of, table_at, entered, with_heads, advanced, left, closed, Reaches, unfollowed, work}
use Rattle.netlist_order.specs.Sound.{IsKnown, IsSound, IsLast, IsFollowed, IsCyclic, KeepsMet}
use Rattle.netlist_order.proofs.Lists.{last_occurs}
use Rattle.netlist_order.proofs.Chains.{input-within}
use Rattle.netlist_order.proofs.Leading.{place-within, heads-upto, leads}
use Rattle.netlist_order.proofs.Entering.{IsSound-entered, KeepsMet-entered, known-entered}
use Rattle.netlist_order.proofs.Merging.{IsSound-merged, known-merged}
use Rattle.netlist_order.proofs.Advancing.{IsSound-advanced, unfollowed-set}
use Rattle.netlist_order.proofs.Leaving.{IsSound-left}
use Rattle.netlist_order.proofs.Closing.{IsSound-closed, KeepsMet-closed}

-- what stands at the last place of a list
pub IsLast-last : (numbers : List ℕ) (number : ℕ) → slice_get numbers (length numbers - 1) ≡ Some number → IsLast numbers number
IsLast-last numbers number is =
    let within = slice_get_within numbers (length numbers - 1) number is in
    record { index = length numbers - 1; last = omega arith; is = get_or_from_slice_get numbers (length numbers - 1) number 0 is }

-- the next input of a table
pub driver-next : (inputs : List (Option ℕ)) (k : ℕ) (driver : Option ℕ) → slice_get inputs k ≡ Some driver → get_or inputs k None ≡ driver
driver-next inputs k driver is = get_or_from_slice_get inputs k driver None is

pub no_next : (inputs : List (Option ℕ)) (k : ℕ) → slice_get inputs k ≡ None → length inputs ≤ k
no_next inputs k none =
    ⊎_elim (λ lt. absurd (none-some (get_or inputs k None) (sym none ∙ slice_get-get_or inputs k None lt))) (λ ge. ge) (cases_lt k (length inputs))

-- a table that reads itself, by its list of drivers
pub Reads-contains : (g : Graph) (table driver : ℕ) → Contains (inputs_of g table) (Some driver) → Reads g table driver
Reads-contains g table driver there = record { place = there.0; drives = get_or_default (inputs_of g table) there.0 None (Some driver) there.1 ∙ there.2 }

pub Contains-reads : (g : Graph) (table driver : ℕ) → Reads g table driver → Contains (inputs_of g table) (Some driver)
Contains-reads g table driver reads =
    let lt = input-within g table reads.place driver reads.drives in
    (reads.place, lt, get_or_default (inputs_of g table) reads.place (Some driver) None lt ∙ reads.drives)

-- what holds once a table that is read was reached
record Reached (g : Graph) (c u : ℕ) (old new : State) : Type 0 where
  sound : IsSound g new
  known : IsKnown new c u
  within : c < length new.met
  same : table_at new c ≡ table_at old c
  next : new.next ≡ old.next
  path : length new.path ≤ length old.path + 1
  kept : KeepsMet old new

module _ (g : Graph) (s : State) (c : ℕ) (sound : IsSound g s) (at : IsLast s.path c) where
  module _ (u : ℕ) (reads : Reads g (table_at s c) u) (below : u < length g) where
    reached-new : mark_of s u ≡ New → Reached g c u s (entered s u)
    reached-new new =
        let lt = place-within g s c sound at in
        let leading = leads g s c sound at u reads in
        record {
          sound = IsSound-entered g s u sound new below leading;
          known = known-entered g s u sound new below leading c lt;
          within = omega (arith, length_push s.met u);
          same = get_or_append_left s.met (u ∷ []) 0 c lt;
          next = refl;
          path = omega (arith, length_push s.path (length s.met));
          kept = KeepsMet-entered g s u sound new below leading;
        }

    reached-open : (p : ℕ) → mark_of s u ≡ Open p → (new : State) → (new ≡ with_heads s new.heads) → Reaches u s new → Reached g c u s (with_heads s new.heads)
    reached-open p open_at new is reaches =
        let drops = (reaches.as_open p open_at).1 in
        record {
          sound = IsSound-merged g s c sound at u p reads open_at new.heads drops;
          known = known-merged g s c sound at u p reads open_at new.heads drops;
          within = place-within g s c sound at;
          same = refl;
          next = refl;
          path = omega arith;
          kept = λ table new. new;
        }

    reached-done : mark_of s u ≡ Done → Reached g c u s s
    reached-done done = record {
      sound = sound;
      known = inl done;
      within = place-within g s c sound at;
      same = refl;
      next = refl;
      path = omega arith;
      kept = λ table new. new;
    }

    by_mark : (new : State) → Reaches u s new → (mark : Visit) → mark_of s u ≡ mark → Reached g c u s new
    by_mark new reaches New is = subst (λ t. Reached g c u s t) (sym (reaches.as_new is)) (reached-new is)
    by_mark new reaches (Open p) is =
        let to = (reaches.as_open p is).0 in subst (λ t. Reached g c u s t) (sym to) (reached-open p is new to reaches)
    by_mark new reaches Done is = subst (λ t. Reached g c u s t) (sym (reaches.as_done is)) (reached-done is)

  reached : IsGraph g → (u : ℕ) → driver_of g (table_at s c) (next_of s (table_at s c)) ≡ Some u → (new : State) → Reaches u s new → Reached g c u s new
  reached graph u drives new reaches =
      let reads : Reads g (table_at s c) u = record { place = next_of s (table_at s c); drives = drives } in
      by_mark u reads (graph (table_at s c) u reads) new reaches (mark_of s u) refl

  pub IsSound-followed : IsGraph g → (u : ℕ) → driver_of g (table_at s c) (next_of s (table_at s c)) ≡ Some u → (new : State) → Reaches u s new
      → IsSound g (advanced new (table_at s c))
  IsSound-followed graph u drives new reaches =
      let r = reached graph u drives new reaches in
      let nexts : next_of new (table_at new c) ≡ next_of s (table_at s c) = rw (r.same, r.next) refl in
      subst (λ t. IsSound g (advanced new t)) r.same
      (IsSound-advanced g new c r.sound r.within
      (λ driver by. let other : driver_of g (table_at s c) (next_of s (table_at s c)) ≡ Some driver =
      subst (λ k. driver_of g (table_at s c) k ≡ Some driver) nexts (subst (λ t. driver_of g t (next_of new (table_at new c)) ≡ Some driver) r.same by) in
      let is : u ≡ driver = same_Some u driver (sym drives ∙ other) in
      subst (λ d. IsKnown new c d) is r.known))

  pub KeepsMet-followed : IsGraph g → (u : ℕ) → driver_of g (table_at s c) (next_of s (table_at s c)) ≡ Some u → (new : State) → Reaches u s new
      → KeepsMet s (advanced new (table_at s c))
  KeepsMet-followed graph u drives new reaches = let r = reached graph u drives new reaches in r.kept

  in_next : table_at s c < length s.next
  in_next = omega (arith, sound.open_tables.within c (place-within g s c sound at), sound.open_tables.next_size)

  pub in_next-reached : IsGraph g → (u : ℕ) → driver_of g (table_at s c) (next_of s (table_at s c)) ≡ Some u → (new : State) → Reaches u s new
      → (table_at s c < length new.next) × (next_of new (table_at s c) ≡ next_of s (table_at s c))
  in_next-reached graph u drives new reaches =
      let r = reached graph u drives new reaches in
      (omega (arith, in_next, ap length r.next), ap (λ (next : List ℕ). get_or next (table_at s c) 0) r.next)

  pub work-followed : IsGraph g → (u : ℕ) → driver_of g (table_at s c) (next_of s (table_at s c)) ≡ Some u → (new : State) → Reaches u s new
      → work g (advanced new (table_at s c)) < work g s
  work-followed graph u drives new reaches =
      let r = reached graph u drives new reaches in
      let less = input-within g (table_at s c) (next_of s (table_at s c)) u drives in
      let one : unfollowed g (advanced new (table_at s c)).next + 1 ≡ unfollowed g s.next =
      rw r.next (unfollowed-set g s.next (table_at s c) in_next less) in
      omega (arith, r.path)

  -- an input that no table drives
  module _ (none : driver_of g (table_at s c) (next_of s (table_at s c)) ≡ None) (less : next_of s (table_at s c) < length (inputs_of g (table_at s c))) where
    pub IsSound-passed : IsSound g (advanced s (table_at s c))
    IsSound-passed =
        IsSound-advanced g s c sound (place-within g s c sound at) (λ driver drives. absurd (none-some driver (sym none ∙ drives)))

    pub work-passed : work g (advanced s (table_at s c)) < work g s
    work-passed = omega (arith, unfollowed-set g s.next (table_at s c) in_next less)

  -- the path is shorter once its last place is left
  pub work-left : work g (left s) < work g s
  work-left = omega (arith, at.last, length-take (length s.path - 1) s.path)

  pub work-closed : (cyclic : Bool) → work g (closed (left s) c cyclic) < work g s
  work-closed cyclic = omega (arith, at.last, length-take (length s.path - 1) s.path)

  pub IsSound-no_head : IsFollowed g s (table_at s c) → slice_get s.heads (length s.heads - 1) ≢ Some c → IsSound g (left s)
  IsSound-no_head followed other =
      IsSound-left g s c sound at followed
      (λ occurs. ⊎_elim
      (λ more.
      let last = get_or s.heads (length s.heads - 1) 0 in
      let upto : last ≤ c = heads-upto g s c sound at last (last_occurs s.heads (length s.heads - 1) last (omega arith) refl) in
      let less = sound.places.heads_rise occurs.place (length s.heads - 1) (omega arith) (omega arith) in
      absurd (omega (arith, occurs.is)))
      (λ ends. let is : occurs.place ≡ length s.heads - 1 = omega (arith, occurs.within) in
      other (slice_get-get_or s.heads (length s.heads - 1) 0 (omega (arith, occurs.within)) ∙ ap (λ (n : ℕ). Some n) (ap (λ k. get_or s.heads k 0) (sym is) ∙ occurs.is)))
      (cases_lt (occurs.place + 1) (length s.heads)))

  pub IsSound-head : IsFollowed g s (table_at s c) → slice_get s.heads (length s.heads - 1) ≡ Some c → (cyclic : Bool) → IsTrue cyclic ↔ IsCyclic g (left s) c
      → IsSound g (closed (left s) c cyclic)
  IsSound-head followed is cyclic says = IsSound-closed g s c sound at followed (IsLast-last s.heads c is) cyclic says

  pub KeepsMet-head : IsFollowed g s (table_at s c) → slice_get s.heads (length s.heads - 1) ≡ Some c → (cyclic : Bool) → IsTrue cyclic ↔ IsCyclic g (left s) c
      → KeepsMet s (closed (left s) c cyclic)
  KeepsMet-head followed is cyclic says = KeepsMet-closed g s c sound at followed (IsLast-last s.heads c is) cyclic says

-- what the code reads of the next input
module _ (g : Graph) (s : State) (c table next : ℕ) (is_table : table ≡ table_at s c) (is_next : next ≡ next_of s table) where
  pub driver-read : (driver : Option ℕ) → Some driver ≡ slice_get (inputs_of g table) next
      → driver_of g (table_at s c) (next_of s (table_at s c)) ≡ driver
  driver-read driver is =
      subst (λ t. driver_of g t (next_of s t) ≡ driver) is_table
      (subst (λ k. driver_of g table k ≡ driver) is_next (driver-next (inputs_of g table) next driver (sym is)))

  pub input-read : (driver : Option ℕ) → Some driver ≡ slice_get (inputs_of g table) next
      → next_of s (table_at s c) < length (inputs_of g (table_at s c))
  input-read driver is =
      subst (λ t. next_of s t < length (inputs_of g t)) is_table
      (subst (λ k. k < length (inputs_of g table)) is_next (slice_get_within (inputs_of g table) next driver (sym is)))

  pub followed-read : None ≡ slice_get (inputs_of g table) next → IsFollowed g s (table_at s c)
  followed-read none =
      subst (λ t. length (inputs_of g t) ≤ next_of s t) is_table
      (subst (λ k. length (inputs_of g table) ≤ k) is_next (no_next (inputs_of g table) next (sym none)))

-- a test of an optional number
pub same_option : (o : Option ℕ) (n : ℕ) → false ≡ not (option_eq eqb o (Some n)) → o ≡ Some n
same_option None n e = absurd (false≢true e)
same_option (Some m) n e = ⊎_elim (λ yes. ap (λ (k : ℕ). Some k) yes.1) (λ no. let fact = no.0 in cc) (eqb_tells m n)

pub other_option : (o : Option ℕ) (n : ℕ) → true ≡ not (option_eq eqb o (Some n)) → o ≢ Some n
other_option o n e is =
    let same : true ≡ not (eqb n n) = subst (λ p. true ≡ not (option_eq eqb p (Some n))) is e in
    ⊎_elim (λ yes. let fact = yes.0 in cc) (λ no. no.1 refl) (eqb_tells n n)
