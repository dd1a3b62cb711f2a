use Rattle.std.proofs.Common.{◌≡◌, ℕ, List, ◌+◌, ◌-◌, ◌≤◌, take, drop, ap, sym, subst, ◌∙◌, arith}
use Rattle.std.proofs.lemmas.List.{take_rest, drop-drop}
use Rattle.psl_lexer.specs.declared.front.Front.TheVariants as fronts
use Rattle.psl_lexer.specs.declared.token.Token.{Token}
use Rattle.psl_lexer.specs.Fronts.{Stands, IsFront}
use Rattle.psl_lexer.specs.Lexed.{IsReadTo}
use Rattle.psl_lexer.proofs.Pieces.{read_gap, read_token, read_escaped}
use Rattle.psl_lexer.proofs.lexing.Position.read.Goals as goal

pub returns-in-Skip-clause-after : goal.returns-in-Skip-clause-after
returns-in-Skip-clause-after c =
    let text = c.args.self.now.text.now in
    let stands = subst (λ (t : List ℕ). Stands t (fronts.Skip c.in-Skip.len)) (take_rest text c.args.self.now.at) c.in-Skip.ensures.front.stands in
    read_gap text c.args.tokens.now c.args.self.now.at c.in-Skip.len c.requires.before stands

-- what the code cuts out of the text
cut : (text : List ℕ) (at len : ℕ) → take len (drop at text) ≡ take (at + len - at) (drop at text)
cut text at len = let same : len ≡ at + len - at = omega arith in ap (λ n. take n (drop at text)) same

cut_name : (text : List ℕ) (at len : ℕ) → 2 ≤ len → take (len - 2) (drop 1 (drop at text)) ≡ take (at + len - 1 - (at + 1)) (drop (at + 1) text)
cut_name text at len h =
    let same : len - 2 ≡ at + len - 1 - (at + 1) = omega (arith, h) in
    ap (λ n. take n (drop 1 (drop at text))) same ∙ ap (take (at + len - 1 - (at + 1))) (drop-drop 1 at text)

pub returns-in_ok-push-in-Token-clause-after : goal.returns-in_ok-push-in-Token-clause-after
returns-in_ok-push-in-Token-clause-after c =
    let text = c.args.self.now.text.now in
    let at = c.args.self.now.at in
    let len = c.in-Token.len in
    let front = subst (λ (t : List ℕ). IsFront t (fronts.Token c.in-Token.kind len)) (take_rest text at) c.in-Token.ensures.front in
    let read = read_token text c.args.tokens.now at len c.in-Token.kind c.requires.before front in
    let said = cut text at len in
    let made = c.in_ok-token-in-Token.ensures in
    let pushed = c.in_ok-push-in-Token.ensures.ok in
    subst (λ (ts : List Token). IsReadTo text ts (at + len))
    (rw (said, sym c.requires.place) (rw (sym made) (sym pushed))) read

pub returns-in_ok-push-in-Escaped-clause-after : goal.returns-in_ok-push-in-Escaped-clause-after
returns-in_ok-push-in-Escaped-clause-after c =
    let text = c.args.self.now.text.now in
    let at = c.args.self.now.at in
    let len = c.in-Escaped.len in
    let front = subst (λ (t : List ℕ). IsFront t (fronts.Escaped len)) (take_rest text at) c.in-Escaped.ensures.front in
    let read = read_escaped text c.args.tokens.now at len c.requires.before front in
    let said = cut_name text at len c.in-Escaped.ensures.within.0 in
    let made = c.in_ok-token-in-Escaped.ensures in
    let pushed = c.in_ok-push-in-Escaped.ensures.ok in
    subst (λ (ts : List Token). IsReadTo text ts (at + len))
    (rw (said, sym c.requires.place) (rw (sym made) (sym pushed))) read
