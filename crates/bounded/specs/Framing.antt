-- The frames of a search, as they are built.
use Rattle.std.specs.Prelude.{◌≡◌, ℕ, suc, ◌<◌, ℤ, Bool, List, map, length, All}
use Rattle.std.specs.List.{range_with_len}
use Rattle.alternating_theory.specs.Obligations.{Automaton}
use Rattle.clauses.specs.declared.flat.TheConstants.{MOST_VARIABLES}
use Rattle.gates_builder.specs.Adding.{AreOf, Making}
use Rattle.gates_covers.specs.Greedy.{covers_of}
use Rattle.netlist.specs.Design.{Design}
use Rattle.netlist.specs.Valuations.{bit}
use Rattle.bounded.specs.Searches.{before_places, literals_of, placed_nodes, search_cone, search_frame}
use Rattle.bounded.specs.declared.framing.Framed.{Framed}
use Rattle.bounded.specs.declared.places.Places.{Places}

-- the nodes are those of the frame behind the last valuation, and each frame has its literals
pub record IsFramed (design : Design) (automaton : Automaton) (valuations : ℕ) (framed : Framed) : Type 0 where
  pub few : valuations < MOST_VARIABLES
  pub builder : framed.builder
      ≡ record { given = 0; covers = covers_of design.tables; nodes = (search_frame design automaton valuations).nodes }
  pub frames : framed.frames ≡ map (literals_of design automaton) (range_with_len 0 (suc valuations))
  pub are : All (AreOf framed.builder) framed.frames
  pub sizes : All (λ literals. length literals ≡ design.signals) framed.frames
  pub cone_size : length framed.cone ≡ design.signals
  pub cone : (signal : ℕ) → signal < design.signals → bit framed.cone signal ≡ search_cone design automaton signal

-- behind them stand the bits of places
pub record IsPlaced (design : Design) (places : Places) (making : Making) (frames : List (List ℤ)) (cone : List Bool) : Type 0 where
  pub before : places.before ≡ before_places design places.automaton.now places.last
  pub builder : making
      ≡ record { given = 0; covers = covers_of design.tables; nodes = placed_nodes design places.automaton.now places.last }
  pub frames_are : frames ≡ map (literals_of design places.automaton.now) (range_with_len 0 (suc places.last))
  pub are : All (AreOf making) frames
  pub sizes : All (λ literals. length literals ≡ design.signals) frames
  pub cone_size : length cone ≡ design.signals
  pub cone_is : (signal : ℕ) → signal < design.signals → bit cone signal ≡ search_cone design places.automaton.now signal
