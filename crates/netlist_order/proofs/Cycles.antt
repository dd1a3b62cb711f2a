-- Whether tables depend on themselves is decided: a chain leads through tables below a number, or it does not.
use Rattle.std.proofs.Common.{◌≡◌, ℕ, zero, suc, ◌<◌, ◌⊎◌, inl, inr, List, [], ◌∷◌, length, get_or, Option, None, Some, refl, subst, ⊎_elim, arith}
use Rattle.std.proofs.lemmas.Option.{none-some}
use Rattle.std.proofs.lemmas.Bool.{cases_lt, cases_eq}
use Rattle.netlist_order.specs.Graph.{Graph, inputs_of, Reads, Depends, directly, onwards, IsFirstOnCycle}
use Rattle.netlist_order.proofs.Chains.{Depends-append, Depends-within}
use Rattle.netlist_order.specs.TableGraph.{IsAcyclic}

-- something holds, or it does not
abbrev pub Decided : Type 0 → Type 0
Decided P = P ⊎ (P → ⊥)

-- an input is driven by a table
abbrev HasDriver : List (Option ℕ) → ℕ → Type 0
HasDriver inputs driver = (place : ℕ) × (get_or inputs place None ≡ Some driver)

some-one : (one other : ℕ) → ◌≡◌ {A = Option ℕ} (Some one) (Some other) → one ≡ other
some-one one other is = cc

is_driven : (input : Option ℕ) (driver : ℕ) → Decided (input ≡ Some driver)
is_driven None driver = inr (λ is. none-some driver is)
is_driven (Some table) driver =
    ⊎_elim (λ same. inl (rw same refl)) (λ other. inr (λ is. other (some-one table driver is))) (cases_eq table driver)

has_driver : (inputs : List (Option ℕ)) (driver : ℕ) → Decided (HasDriver inputs driver)
has_driver [] driver = inr (λ found. none-some driver found.1)
has_driver (input ∷ inputs) driver =
    ⊎_elim (λ here. inl (0, here))
    (λ not_here. ⊎_elim (λ later. inl (suc later.0, later.1))
    (λ nowhere. inr (λ found. no_place not_here nowhere found.0 found.1)) (has_driver inputs driver))
    (is_driven input driver)
  where
    no_place : (input ≡ Some driver → ⊥) → (HasDriver inputs driver → ⊥) → (place : ℕ) → get_or (input ∷ inputs) place None ≡ Some driver → ⊥
    no_place not_here nowhere zero is = not_here is
    no_place not_here nowhere (suc place) is = nowhere (place, is)

module _ (graph : Graph) where
  reads : (table driver : ℕ) → Decided (Reads graph table driver)
  reads table driver =
      ⊎_elim (λ found. inl (record { place = found.0; drives = found.1 }))
      (λ none. inr (λ reading. none (reading.place, reading.drives))) (has_driver (inputs_of graph table) driver)

  -- a chain leads from one table to another, through tables below a number alone
  abbrev Via : ℕ → ℕ → ℕ → Type 0
  Via zero table driver = Reads graph table driver
  Via (suc k) table driver = Via k table driver ⊎ (Via k table k × Via k k driver)

  via : (k table driver : ℕ) → Decided (Via k table driver)
  via zero table driver = reads table driver
  via (suc k) table driver =
      ⊎_elim (λ short. inl (inl short))
      (λ not_short. ⊎_elim
      (λ first. ⊎_elim (λ second. inl (inr (first, second)))
      (λ no_second. inr (λ chain. ⊎_elim not_short (λ both. no_second both.1) chain)) (via k k driver))
      (λ no_first. inr (λ chain. ⊎_elim not_short (λ both. no_first both.0) chain)) (via k table k))
      (via k table driver)

  depends : (k table driver : ℕ) → Via k table driver → Depends graph table driver
  depends zero table driver reading = directly reading
  depends (suc k) table driver (inl short) = depends k table driver short
  depends (suc k) table driver (inr both) = Depends-append (depends k table k both.0) (depends k k driver both.1)

  from_reads : (k table driver : ℕ) → Reads graph table driver → Via k table driver
  from_reads zero table driver reading = reading
  from_reads (suc k) table driver reading = inl (from_reads k table driver reading)

  through : (k table middle driver : ℕ) → middle < k → Via k table middle → Via k middle driver → Via k table driver
  through zero table middle driver lt first second = absurd (omega arith)
  through (suc k) table middle driver lt first second =
      ⊎_elim
      (λ below. ⊎_elim
      (λ short. ⊎_elim (λ shorter. inl (through k table middle driver below short shorter))
      (λ both. inr (through k table middle k below short both.0, both.1)) second)
      (λ both. ⊎_elim (λ short. inr (both.0, through k k middle driver below both.1 short))
      (λ other. inr (both.0, other.1)) second) first)
      (λ not_below. let last : middle ≡ k = omega arith in
      inr (to_last last first, from_last last second))
      (cases_lt middle k)
    where
      to_last : middle ≡ k → Via (suc k) table middle → Via k table k
      to_last last chain = ⊎_elim (λ short. subst (λ m. Via k table m) last short) (λ both. both.0) chain

      from_last : middle ≡ k → Via (suc k) middle driver → Via k k driver
      from_last last chain = ⊎_elim (λ short. subst (λ m. Via k m driver) last short) (λ both. both.1) chain

  from_depends : (table driver : ℕ) → Depends graph table driver → Via (length graph) table driver
  from_depends table driver (directly reading) = from_reads (length graph) table driver reading
  from_depends table driver (onwards {driver = middle} reading rest) =
      through (length graph) table middle driver (Depends-within rest) (from_reads (length graph) table middle reading)
      (from_depends middle driver rest)

  pub depends-decided : (table driver : ℕ) → Decided (Depends graph table driver)
  depends-decided table driver =
      ⊎_elim (λ chain. inl (depends (length graph) table driver chain)) (λ none. inr (λ chain. none (from_depends table driver chain)))
      (via (length graph) table driver)

  cyclic : (table : ℕ) → Decided (Depends graph table table)
  cyclic table = depends-decided table table

  first_below : (n : ℕ) → ((table : ℕ) → table < n → Depends graph table table → ⊥) ⊎ ((table : ℕ) × IsFirstOnCycle graph table)
  first_below zero = inl (λ table lt chain. omega arith)
  first_below (suc n) =
      ⊎_elim
      (λ none. ⊎_elim
      (λ here. inr (n, record { within = Depends-within here; itself = here; first = none }))
      (λ not_here. inl (λ table lt chain.
      ⊎_elim (λ below. none table below chain)
      (λ not_below. let last : table ≡ n = omega arith in not_here (subst (λ t. Depends graph t t) last chain)) (cases_lt table n)))
      (cyclic n))
      (λ found. inr found) (first_below n)

  pub cycle-some : IsAcyclic graph ⊎ ((table : ℕ) × IsFirstOnCycle graph table)
  cycle-some =
      ⊎_elim (λ none. inl (λ table chain. none table (Depends-within chain) chain)) (λ found. inr found) (first_below (length graph))

  pub cycle-one : (table other : ℕ) → IsFirstOnCycle graph table → IsFirstOnCycle graph other → table ≡ other
  cycle-one table other one two =
      ⊎_elim (λ before. absurd (two.first table before one.itself))
      (λ not_before. ⊎_elim (λ after. absurd (one.first other after two.itself)) (λ not_after. omega arith) (cases_lt other table))
      (cases_lt table other)
