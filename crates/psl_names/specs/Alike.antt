-- Runs of names of one signal with one range.
use Rattle.std.specs.List.{list_any}
use Rattle.std.specs.Prelude.{◌≡◌, ◌==◌, ◌&&◌, Bool as Truth, true, false, ℕ, suc, List, [], ◌∷◌, if◌then◌else◌}
use Rattle.psl_tree.specs.declared.name.Name.{Name}
use Rattle.psl_layer_theory.specs.declared.found.Found.{Found}
use Rattle.psl_layer_theory.specs.declared.found.Found.TheVariants.{Nothing, One, Several}
use Rattle.psl_layer_theory.specs.LookUp.{is_same_range}

-- how many names at a list's front have the signal and the range of a name
abbrev pub alike : Name → List Name → ℕ
alike first [] = 0
alike first (name ∷ more) = if is_same_range first name then suc (alike first more) else 0

-- for each name of a list, how many directly behind it have its signal and its range
abbrev pub alike_each : List Name → List ℕ
alike_each [] = []
alike_each (name ∷ more) = alike name more ∷ alike_each more

-- the count of a list's first name
abbrev pub front_count : List Name → ℕ
front_count [] = 0
front_count (name ∷ more) = alike name more

-- the first of a list, if there is one, passes a test
abbrev pub first_passes : (Name → Truth) → List Name → Truth
first_passes test [] = false
first_passes test (name ∷ more) = test name

-- what a name says, by whether another one that is not alike matches too
abbrev pub said : Name → Truth → Found
said name other = if other then Several else One name.signal name.left name.right

-- lists that have the same members
abbrev pub HaveSameMembers : List Name → List Name → Type 0
HaveSameMembers first second = (test : Name → Truth) → list_any test first ≡ list_any test second

-- what was found, with a name more
abbrev pub and_name : Found → Name → Found
and_name Nothing name = One name.signal name.left name.right
and_name (One signal left right) name =
    if (signal == name.signal) && (left == name.left) && (right == name.right) then One signal left right else Several
and_name Several name = Several

-- the same where the name matches
abbrev pub with_name : Found → Truth → Name → Found
with_name found false name = found
with_name found true name = and_name found name

-- what was found, with those of more names that match
abbrev pub with_names : (Name → Truth) → Found → List Name → Found
with_names test found [] = found
with_names test found (name ∷ more) = with_names test (with_name found (test name) name) more

-- the first of two that found something
abbrev pub chosen : Found → Found → Found
chosen Nothing second = second
chosen (One signal left right) second = One signal left right
chosen Several second = Several
