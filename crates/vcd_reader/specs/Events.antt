-- What the body of a recording says, and the value that it gives a signal at a time (IEEE 1364, clause
-- 18.2.3).
use Rattle.std.specs.Prelude.{ℕ, nat_lt, ◌==◌, Bool, false, true, cond, List, [], ◌∷◌, Option, None, Some}

-- a time, or a change: a signal, by its number, gets a value, by its letters from the left
pub data Event : Type 0 where
  At : ℕ → Event
  Gets : ℕ → List ℕ → Event

-- the events before the next time that is higher
abbrev pub before_higher : ℕ → List Event → List Event
before_higher time [] = []
before_higher time (At other ∷ events) = cond (nat_lt time other) [] (At other ∷ before_higher time events)
before_higher time (Gets signal value ∷ events) = Gets signal value ∷ before_higher time events

-- the value of a signal's last change, or an older one where there is no change
abbrev pub last_change : Option (List ℕ) → ℕ → List Event → Option (List ℕ)
last_change old signal [] = old
last_change old signal (At time ∷ events) = last_change old signal events
last_change old signal (Gets other value ∷ events) = last_change (cond (other == signal) (Some value) old) signal events

-- the value of a signal at a time: its last change before the next higher time; none where there is none
abbrev pub value_at : List Event → ℕ → ℕ → Option (List ℕ)
value_at events signal time = last_change None signal (before_higher time events)

-- the time is that of the last one
abbrev pub is_last : Option ℕ → ℕ → Bool
is_last None time = false
is_last (Some last) time = last == time

-- the time is lower than the last one
abbrev pub falls : Option ℕ → ℕ → Bool
falls None time = false
falls (Some last) time = nat_lt time last

-- the times after a last one, in order, each once: a time equal to the one before it is the same
abbrev pub times_after : Option ℕ → List Event → List ℕ
times_after last [] = []
times_after last (At time ∷ events) = cond (is_last last time) (times_after last events) (time ∷ times_after (Some time) events)
times_after last (Gets signal value ∷ events) = times_after last events

-- the distinct times that are listed, in order
abbrev pub times_of : List Event → List ℕ
times_of events = times_after None events

-- no time is lower than the one before it
abbrev pub never_fall : Option ℕ → List Event → Bool
never_fall last [] = true
never_fall last (At time ∷ events) = cond (falls last time) false (never_fall (Some time) events)
never_fall last (Gets signal value ∷ events) = never_fall last events
