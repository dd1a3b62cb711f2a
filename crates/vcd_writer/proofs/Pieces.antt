-- Pieces of a recording's text that are read one after the other, without a fault: what they say, whatever is behind them.
use Rattle.std.proofs.Common.{◌≡◌, refl, sym, subst, ℕ, ◌+◌, ◌<◌, true, List, [], ◌∷◌, ◌++◌, length, append_assoc}
use Rattle.std.specs.List.{list_all}
use Rattle.std.proofs.lemmas.List.{append-nil}
use Rattle.psl_base.specs.Bytes.{is_white}
use Rattle.psl_base.specs.Tokens.{PlacedToken, token_at, tokens_from}
use Rattle.vcd_writer.proofs.Standings.{Goes, goes-on}
use Rattle.vcd_writer.proofs.Tokens.{is_solid, word-token}
use Rattle.vcd_reader.specs.Events.{Event}
use Rattle.vcd_reader.specs.Standing.{Standing}

-- from this standing a piece of the text says these events, and leads to that standing
abbrev pub Reads : List ℕ → Standing → List ℕ → List Event → Standing → Type 0
Reads whole start piece here mid =
    (at : ℕ) (rest : List ℕ) (events : List Event) (end : Standing) → ((next : ℕ) → Goes mid (tokens_from whole next rest) events end)
    → Goes start (tokens_from whole at (piece ++ rest)) (here ++ events) end

-- no piece at all
pub reads-nothing : (whole : List ℕ) (start : Standing) → Reads whole start [] [] start
reads-nothing whole start at rest events end later = later at

-- one piece after the other
pub reads-on : (whole : List ℕ) (start mid end : Standing) (piece more : List ℕ) (es fs : List Event) → Reads whole start piece es mid → Reads whole mid more fs end
    → Reads whole start (piece ++ more) (es ++ fs) end
reads-on whole start mid end piece more es fs front back at rest events last later =
    subst (λ (text : List ℕ). Goes start (tokens_from whole at text) ((es ++ fs) ++ events) last) (sym (append_assoc piece more rest))
    (subst (λ (all : List Event). Goes start (tokens_from whole at (piece ++ (more ++ rest))) all last) (sym (append_assoc es fs events))
    (front at (more ++ rest) (fs ++ events) last (λ next. back next rest events last later)))

-- a word and the white space byte behind it
pub reads-word : (whole : List ℕ) (start mid : Standing) (word : List ℕ) (gap : ℕ) (here : List Event) → 0 < length word → list_all is_solid word ≡ true → is_white gap ≡ true
    → ((at : ℕ) → Goes start (token_at whole at word ∷ []) here mid) → Reads whole start (word ++ gap ∷ []) here mid
reads-word whole start mid word gap here long solid white step at rest events end later =
    subst (λ (text : List ℕ). Goes start (tokens_from whole at text) (here ++ events) end) (sym (append_assoc word (gap ∷ []) rest))
    (subst (λ (ts : List PlacedToken). Goes start ts (here ++ events) end) (sym (word-token whole at word gap rest long solid white))
    (goes-on start mid end (token_at whole at word ∷ []) (tokens_from whole (at + length word + 1) rest) here events (step at) (later (at + length word + 1))))

-- up to the end of the text
pub reads-all : (whole : List ℕ) (start end : Standing) (text : List ℕ) (events : List Event) → Reads whole start text events end → (at : ℕ) → Goes start (tokens_from whole at text) events end
reads-all whole start end text events reads at =
    subst (λ (all : List ℕ). Goes start (tokens_from whole at all) events end) (append-nil text)
    (subst (λ (es : List Event). Goes start (tokens_from whole at (text ++ [])) es end) (append-nil events) (reads at [] [] end (λ next. (refl, refl))))
