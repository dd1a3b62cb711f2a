-- The last place of the path: every open table leads to its table.
use Rattle.std.proofs.Common.{◌≡◌, ℕ, ◌<◌, ◌≤◌, ◌⊎◌, inl, inr, length, ⊎_elim, arith}
use Rattle.std.proofs.lemmas.Bool.{cases_lt, cases_eq}
use Rattle.netlist_order.specs.Graph.{Graph, Reads, Depends, directly, Occurs}
use Rattle.netlist_order.specs.State.{State, table_at}
use Rattle.netlist_order.specs.Sound.{IsSound, IsLast}
use Rattle.netlist_order.proofs.Lists.{last_most, last_occurs}
use Rattle.netlist_order.proofs.Chains.{Depends-append}

module _ (g : Graph) (s : State) (c : ℕ) (sound : IsSound g s) (at : IsLast s.path c) where
  pub place-within : c < length s.met
  place-within = sound.places.within c (last_occurs s.path at.index c at.last at.is)

  pub path-upto : (place : ℕ) → Occurs place s.path → place ≤ c
  path-upto place occurs = last_most s.path at.index c place sound.places.path_rises at.last at.is occurs

  pub heads-upto : (head : ℕ) → Occurs head s.heads → head ≤ c
  heads-upto head occurs = path-upto head (sound.places.on_path head occurs)

  pub to-last : (place : ℕ) → place < length s.met → (place ≡ c) ⊎ Depends g (table_at s place) (table_at s c)
  to-last place lt =
      ⊎_elim (λ before. inr (sound.open_tables.ahead place c before place-within))
      (λ not_before. ⊎_elim (λ same. inl same)
      (λ other. inr (sound.open_tables.back c place (omega arith) lt (λ head occurs le. heads-upto head occurs)))
      (cases_eq place c))
      (cases_lt place c)

  pub leads : (driver : ℕ) → Reads g (table_at s c) driver → (place : ℕ) → place < length s.met → Depends g (table_at s place) driver
  leads driver reads place lt =
      ⊎_elim (λ same. rw same (directly reads)) (λ leading. Depends-append leading (directly reads)) (to-last place lt)
