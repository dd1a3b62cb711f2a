-- How many signals a hierarchy has, how many instances, and how much their lines and names take: sums over placements, of
-- which nothing has to be flattened.
use Rattle.std.specs.Prelude.{◌≡◌, ℕ, zero, suc, ◌+◌, ◌-◌, ◌*◌, ◌<◌, ◌^◌, ◌⊎◌, min, Bool, cond, ◌||◌, nat_lt, List, [], ◌∷◌, take, length, sum_by, fold, slice_index, slice_index_or, is_none, Option, None, Some}
use Rattle.blif_flattening.specs.declared.model.Connection.{Connection}
use Rattle.blif_flattening.specs.declared.model.Placement.{Placement}
use Rattle.blif_flattening.specs.declared.model.Model.{Model}
use Rattle.blif_flattening.specs.declared.model.TheConstants.{DEEPEST}
use Rattle.blif_flattening.specs.declared.model.Item.TheVariants.{Place}
use Rattle.blif_flattening.specs.Members.{Among}
use Rattle.blif_flattening.specs.Hierarchy.{items_of, placements_in, actual_in}
use Rattle.blif_flattening.specs.Instances.{names_of}
use Rattle.blif_hierarchy.specs.Drivers.{IsInForm}
use Rattle.blif_hierarchy.specs.declared.cost.Cost.{Cost}
use Rattle.blif_hierarchy.specs.declared.cost.Scale.{Scale}
use Rattle.blif_hierarchy.specs.declared.cost.TheConstants.{NAME_SIZE}

-- the placements in the model of a number
abbrev pub placements_of : {Line : Type 0} → List (Model Line) → ℕ → List Placement
placements_of models model = placements_in (items_of models model)

-- how many of so many names are signals of their own: those that are connected with nothing
abbrev pub own_count : List Connection → ℕ → ℕ
own_count connections zero = 0
own_count connections (suc name) = own_count connections name + cond (is_none (actual_in connections name)) 1 0

-- how many signals the instances below one of a model have of their own, down to so many levels
abbrev pub signals_below : {Line : Type 0} → List (Model Line) → ℕ → ℕ → ℕ
signals_below models zero model = 0
signals_below models (suc levels) model =
    sum_by
    (λ placement. own_count placement.connections (names_of models placement.model) + signals_below models levels placement.model)
    (placements_of models model)

-- how many instances there are below one of a model, down to so many levels
abbrev pub instances_below : {Line : Type 0} → List (Model Line) → ℕ → ℕ → ℕ
instances_below models zero model = 0
instances_below models (suc levels) model =
    sum_by (λ placement. 1 + instances_below models levels placement.model) (placements_of models model)

-- how many signals there are
unfoldable pub signal_count : {Line : Type 0} → List (Model Line) → ℕ
signal_count models = names_of models 0 + signals_below models DEEPEST 0

-- the signals of the top, with those of so many of its placements, and the instances that these make
abbrev pub signals_with : {Line : Type 0} → List (Model Line) → ℕ → ℕ
signals_with models count =
    names_of models 0
    + sum_by
    (λ placement. own_count placement.connections (names_of models placement.model)
    + signals_below models (DEEPEST - 1) placement.model)
    (take count (placements_of models 0))

abbrev pub instances_with : {Line : Type 0} → List (Model Line) → ℕ → ℕ
instances_with models count =
    sum_by (λ placement. 1 + instances_below models (DEEPEST - 1) placement.model) (take count (placements_of models 0))

-- how many bytes the lines of a model have, by where those of each begin and those of the last one end
abbrev pub line_bytes : List ℕ → ℕ → ℕ
line_bytes starts model = slice_index starts (suc model) - slice_index starts model

-- those of the instances below one of a model, down to so many levels
abbrev pub bytes_below : {Line : Type 0} → List (Model Line) → List ℕ → ℕ → ℕ → ℕ
bytes_below models starts zero model = 0
bytes_below models starts (suc levels) model =
    sum_by (λ placement. line_bytes starts placement.model + bytes_below models starts levels placement.model)
    (placements_of models model)

-- those of the top, with so many of its placements
abbrev pub bytes_with : {Line : Type 0} → List (Model Line) → List ℕ → ℕ → ℕ
bytes_with models starts count =
    line_bytes starts 0
    + sum_by (λ placement. line_bytes starts placement.model + bytes_below models starts (DEEPEST - 1) placement.model)
    (take count (placements_of models 0))

-- how much an instance of a model takes: the bytes of its lines, and so many more for each of its names
abbrev pub instance_size : {Line : Type 0} → List (Model Line) → List ℕ → ℕ → ℕ
instance_size models starts model = line_bytes starts model + NAME_SIZE * names_of models model

-- and the instances below one of a model, down to so many levels
abbrev pub size_below : {Line : Type 0} → List (Model Line) → List ℕ → ℕ → ℕ → ℕ
size_below models starts zero model = 0
size_below models starts (suc levels) model =
    sum_by (λ placement. instance_size models starts placement.model + size_below models starts levels placement.model)
    (placements_of models model)

-- the top, with so many of its placements
abbrev pub size_with : {Line : Type 0} → List (Model Line) → List ℕ → ℕ → ℕ
size_with models starts count =
    instance_size models starts 0
    + sum_by
    (λ placement. instance_size models starts placement.model + size_below models starts (DEEPEST - 1) placement.model)
    (take count (placements_of models 0))

-- more signals, more instances, or more of lines and names than is allowed
abbrev pub IsOver : Scale → ℕ → ℕ → ℕ → Type 0
IsOver scale signals instances size = (scale.count < signals) ⊎ ((scale.count < instances) ⊎ (scale.size < size))

-- so it is with this placement of the top, and all before it
abbrev pub IsPast : {Line : Type 0} → List (Model Line) → Scale → ℕ → Type 0
IsPast models scale k =
    IsOver scale (signals_with models (suc k)) (instances_with models (suc k)) (size_with models scale.starts (suc k))

-- and so it is with the lines alone
abbrev pub IsLong : {Line : Type 0} → List (Model Line) → Scale → ℕ → Type 0
IsLong models scale k = scale.size < bytes_with models scale.starts (suc k)

-- of so many placements of the top, one is the first with which something is so
pub record IsFirstWith (count : ℕ) (Holds : ℕ → Type 0) (k : ℕ) : Type 0 where
  pub there : k < count
  pub past : Holds k
  pub first : (earlier : ℕ) → earlier < k → Holds earlier → ⊥

-- the first such one, or that there is none
abbrev pub FindsWith : ℕ → (ℕ → Type 0) → Option ℕ → Type 0
FindsWith count Holds None = (k : ℕ) → k < count → Holds k → ⊥
FindsWith count Holds (Some k) = IsFirstWith count Holds k

-- the first placement of the top that passes a limit, or that there is none
abbrev pub FindsPast : {Line : Type 0} → List (Model Line) → Scale → Option ℕ → Type 0
FindsPast models scale found = FindsWith (length (placements_of models 0)) (IsPast models scale) found

-- and that of lines alone
abbrev pub FindsLong : {Line : Type 0} → List (Model Line) → Scale → Option ℕ → Type 0
FindsLong models scale found = FindsWith (length (placements_of models 0)) (IsLong models scale) found

-- each placement is in form
abbrev pub AreInForm : {Line : Type 0} → List (Model Line) → Type 0
AreInForm models = (model : ℕ) (placement : Placement) → Among (Place placement) (items_of models model) → IsInForm models placement

-- how the first one is searched for. Numbers are counted up to one more than is allowed, for which 32 bits are enough
abbrev pub FitsWords : Scale → Type 0
FitsWords scale = (scale.count + 1 < 2 ^ 32) × (scale.size + 1 < 2 ^ 32)

abbrev pub capped : Scale → ℕ → ℕ → ℕ → Cost
capped scale signals instances size = record {
  signals = min signals (scale.count + 1);
  instances = min instances (scale.count + 1);
  size = min size (scale.size + 1);
}

-- what is below an instance of a model, down to so many levels
abbrev pub cost_below : {Line : Type 0} → List (Model Line) → Scale → ℕ → ℕ → Cost
cost_below models scale levels model =
    capped scale (signals_below models levels model) (instances_below models levels model)
    (size_below models scale.starts levels model)

-- with one placement more, whose model has this below it, and so many names
abbrev pub no_cost : Cost
no_cost = record { signals = 0; instances = 0; size = 0 }

abbrev pub with_placement : {Line : Type 0} → List (Model Line) → Scale → List Cost → Cost → Placement → Cost
with_placement models scale costs sum placement =
    let below = slice_index_or costs placement.model no_cost in
    let own = names_of models placement.model - length placement.connections in
    let size = instance_size models scale.starts placement.model in
    capped scale (sum.signals + own + below.signals) (sum.instances + 1 + below.instances) (sum.size + size + below.size)

-- of all placements of a model
abbrev pub cost_after : {Line : Type 0} → List (Model Line) → Scale → List Cost → Model Line → Cost
cost_after models scale costs model = fold (with_placement models scale costs) no_cost (placements_in model.items)

-- the top alone
abbrev pub cost_alone : {Line : Type 0} → List (Model Line) → Scale → Cost
cost_alone models scale = capped scale (names_of models 0) 0 (instance_size models scale.starts 0)

-- whether a limit is passed
abbrev pub is_over : Scale → Cost → Bool
is_over scale cost =
    nat_lt scale.count cost.signals || (nat_lt scale.count cost.instances || nat_lt scale.size cost.size)

-- the number of the first placement with which it is, from a sum and a number on
abbrev pub past_from : {Line : Type 0} → List (Model Line) → Scale → List Cost → Cost → ℕ → List Placement → Option ℕ
past_from models scale costs sum number [] = None
past_from models scale costs sum number (placement ∷ placements) =
    let next = with_placement models scale costs sum placement in
    cond (is_over scale next) (Some number) (past_from models scale costs next (number + 1) placements)

-- a list has what is below each model, down to so many levels
pub record HasCosts {Line : Type 0} (models : List (Model Line)) (scale : Scale) (levels : ℕ) (costs : List Cost)
    : Type 0 where
  pub size : length costs ≡ length models
  pub each : (model : ℕ) → model < length models
      → slice_index_or costs model no_cost ≡ cost_below models scale levels model

-- how lines alone are summed: what is below an instance of each model, down to so many levels
abbrev pub HasBytes : {Line : Type 0} → List (Model Line) → Scale → ℕ → List ℕ → Type 0
HasBytes models scale levels below =
    (model : ℕ) → slice_index below model ≡ min (bytes_below models scale.starts levels model) (scale.size + 1)

-- with one placement more
abbrev pub with_lines : Scale → List ℕ → ℕ → Placement → ℕ
with_lines scale below sum placement =
    min (sum + line_bytes scale.starts placement.model + slice_index below placement.model) (scale.size + 1)

-- of all placements of a model
abbrev pub bytes_after : {Line : Type 0} → Scale → List ℕ → Model Line → ℕ
bytes_after scale below model = fold (with_lines scale below) 0 (placements_in model.items)

-- the number of the first placement with which they are too long, from a sum and a number on
abbrev pub long_from : Scale → List ℕ → ℕ → ℕ → List Placement → Option ℕ
long_from scale below sum number [] = None
long_from scale below sum number (placement ∷ placements) =
    let next = with_lines scale below sum placement in
    cond (nat_lt scale.size next) (Some number) (long_from scale below next (number + 1) placements)
