-- Words over contents have one first refusal, or none.
use Rattle.std.proofs.Common.{◌≡◌, refl, sym, ◌∙◌, ap, subst, ℕ, ◌<◌, ◌^◌, Bool, List, [], map, Option, None, Some, Ok, Err, arith, inl, inr}
use Rattle.std.specs.Prelude.{◌≢◌, Result, All}
use Rattle.blif_model.specs.declared.fault.BlifFault.{BlifFault}
use Rattle.blif_reader.proofs.Readings.{reading-one}
use Rattle.blif_reader.specs.Meaning.{IsReading}
use Rattle.netlist.specs.Design.{Design}
use Rattle.psl_base.specs.Shelf.{Contents}
use Rattle.psl_base.specs.declared.place.Place.{Place}
use Rattle.command_line.proofs.Meanings.{one_meaning}
use Rattle.command_line.specs.Commands.{Meaning}
use Rattle.command_line.specs.Commands.Meaning.{wave, show, show_netlist, gen, prove, check, replay}
use Rattle.command_line.specs.Evidences.{Wanted}
use Rattle.command_line.specs.declared.Limits.{Limits}
use Rattle.findings.proofs.Faults.{one_fault as one_size_fault, not_both as within_or_not}
use Rattle.psl_grammar.specs.declared.tree.UnitTree.{UnitTree}
use Rattle.psl_grammar.specs.Surface.{tree_node}
use Rattle.psl_layer_laws.proofs.TreeLaws.{same-tree}
use Rattle.psl_layer_theory.proofs.Resolved.{one_fault as one_layer_fault}
use Rattle.psl_layer_theory.specs.Answers.{IsUnit, IsFlawAt, IsLayerFault, numbered, first_too_large}
use Rattle.psl_layer_theory.specs.Directives.{kernel}
use Rattle.psl_layer_theory.specs.FirstFlaw.{IsFirstFlaw}
use Rattle.psl_layer_theory.specs.Flaws.{tree_flaws}
use Rattle.psl_layer_theory.specs.declared.fault.Cause.{Cause}
use Rattle.psl_layer_theory.specs.declared.fault.Cause.TheVariants as causes
use Rattle.psl_layer_theory.specs.declared.fault.Flaw.{Flaw}
use Rattle.psl_layer_theory.specs.declared.fault.LayerFault.{LayerFault}
use Rattle.psl_layer_theory.specs.declared.fault.LayerFault.TheVariants as layer
use Rattle.psl_lexer.proofs.LawReads.{one_list, one_fault as one_lex_fault, not_both as lexed_or_not}
use Rattle.psl_lexer.specs.Faults.{IsFirstFault as IsFirstLexFault}
use Rattle.psl_lexer.specs.Lexed.{IsLexed}
use Rattle.psl_lexer.specs.declared.fault.LexFault.{LexFault}
use Rattle.psl_lexer.specs.declared.token.Token.{Token}
use Rattle.psl_parser.proofs.Whole.{one_parsed, one_parse_fault, not_both as parsed_or_not}
use Rattle.psl_parser.specs.Parsing.{IsParsed, IsParseFault}
use Rattle.psl_parser.specs.declared.fault.ParseFault.{ParseFault}
use Rattle.psl_tree.specs.declared.directive.Directive.{Directive}
use Rattle.psl_tree.specs.declared.name.Name.{Name}
use Rattle.commands.proofs.Alike.{Agree, alike-err, alike-ok, agree-faults, agree-told, agree-then, agree-content}
use Rattle.commands.proofs.SameChecks.{one-checked-of, same-limit-fault}
use Rattle.commands.proofs.SameOwed.{are-within, same-first-refused}
use Rattle.commands.proofs.SameUnits.{SameUnit, all-judgeable, same-first, same-said}
use Rattle.commands.proofs.Unknowns.{one-known}
use Rattle.commands.specs.Diagnostics.{lex_diagnostic, parse_diagnostic, layer_diagnostic, judge_diagnostic, limit_fault, vcd_diagnostic, blif_diagnostic}
use Rattle.commands.specs.Checks.{CertReading, CertStage, CheckStage}
use Rattle.commands.specs.Commands.{CommandStage, FirstRefusal, MeaningStage, findings_outcome, replayed_outcome, wave_outcome}
use Rattle.commands.specs.Faults.{missing_in, of_none}
use Rattle.commands.specs.Generated.{GeneratedStage}
use Rattle.commands.specs.Provings.{FoundReading, ProveStage}
use Rattle.commands.specs.Replays.{ReplayReading, ReplayStage, ReplayedReading, replayed_of}
use Rattle.commands.specs.Stages.{AndThen, OfFile, Then}
use Rattle.commands.specs.Waves.{TokensReading, TreeReading, UnitReading, UnitStage, TextAnd, DirectivesReading}
use Rattle.commands.specs.Waves.{RecordingReading, RecordingStage, InputsStage, with_recording, NetlistReading, CircuitStage, with_netlist}
use Rattle.commands.specs.Settled.{AreSettled}
use Rattle.commands.specs.Waves.{AreJudged, JudgeReading, JudgedReading, KnownReading, SettledReading, WaveStage, unknown_of}
use Rattle.commands.specs.Waves.{LinesReading, ShowStage, ShowNetlistStage, line_of}
use Rattle.commands.specs.Waves.{SubjectReading, SubjectStage, subject_of}
use Rattle.commands.specs.declared.inputs.Circuit.{Circuit}
use Rattle.commands.specs.declared.inputs.Inputs.{Inputs}
use Rattle.commands.specs.declared.outcome.CheckedCert.{CheckedCert}
use Rattle.commands.specs.declared.outcome.Fault.{Fault}
use Rattle.commands.specs.declared.outcome.Line.{Line}
use Rattle.commands.specs.declared.outcome.Outcome.{Outcome}
use Rattle.commands.specs.declared.outcome.Outcome.TheVariants.{Checked, Shown}
use Rattle.commands.specs.declared.outcome.Settled.{Settled}
use Rattle.commands.specs.declared.prove.Found.{Found}
use Rattle.commands.specs.declared.reason.Diagnostic.{Diagnostic}
use Rattle.commands.specs.declared.reason.Reason.{Reason}
use Rattle.commands.specs.declared.reason.Reason.TheVariants.{Usage, NoMemory}
use Rattle.commands.specs.declared.replayed.Replayed.{Replayed}
use Rattle.commands.specs.declared.subject.Subject.{Subject}
use Rattle.commands.specs.declared.wave.Judgement.{Judgement}
use Rattle.vcd_reader.specs.declared.unknown.Unknown.{Unknown}
use Rattle.replay.specs.Recorded.{first_missing}
use Rattle.replay.specs.declared.answer.Replay.{Replay}
use Rattle.trace.specs.Trace.{first_text}
use Rattle.vcd_reader.specs.declared.unknown.Unknown.TheVariants.{Zero}
use Rattle.vcd_reader.specs.Meaning.{reading}
use Rattle.vcd_reader.specs.Rules.{sample_limit}
use Rattle.vcd_reader.specs.Sampled.{Sampled}
use Rattle.vcd_reader.specs.declared.fault.VcdFault.{VcdFault}
use Rattle.wave_judge.proofs.Faults.{one_fault as one_judge_fault, not_both as judged_or_not}
use Rattle.wave_judge.specs.Faults.{IsJudgeFault, IsJudgeable}
use Rattle.psl_tree.specs.declared.limit.UnitFault.{UnitFault}
use Rattle.psl_tree.specs.declared.limit.UnitFault.TheVariants as units
use Rattle.wave_judge.specs.declared.verdict.Verdict.{Verdict}

-- any two values
abbrev Any-two : {A : Type 0} → A → A → Type 0
Any-two v w = Unit {0}

-- texts

abbrev lex_why : LexFault → Reason
lex_why fault = (lex_diagnostic fault).reason

one-tokens : (name bytes : List ℕ) → Agree (λ (t u : List Token). t ≡ u) (TokensReading name bytes) (TokensReading name bytes)
one-tokens name bytes =
    agree-told name lex_diagnostic lex_diagnostic (IsLexed bytes) (IsLexed bytes) (IsFirstLexFault bytes) (IsFirstLexFault bytes) (λ (t u : List Token). t ≡ u)
    (λ t u h k. one_list bytes t u h k)
    (λ c d n m h k. ap lex_diagnostic (one_lex_fault bytes c d (λ e. n (ap lex_why e)) (λ e. m (ap lex_why e)) h k))
    (λ t d n h k. lexed_or_not bytes t d h (λ e. n (ap lex_why e)) k)
    (λ c t n h k. lexed_or_not bytes t c k (λ e. n (ap lex_why e)) h)

-- two trees of one grammar node
abbrev SameTree : UnitTree → UnitTree → Type 0
SameTree t u = tree_node t ≡ tree_node u

abbrev parse_why : List ℕ → List Token → ParseFault → Reason
parse_why bytes tokens fault = (parse_diagnostic bytes tokens fault).reason

one-tree : (name bytes : List ℕ) (tokens : List Token) → Agree SameTree (TreeReading name bytes tokens) (TreeReading name bytes tokens)
one-tree name bytes tokens =
    agree-told name (parse_diagnostic bytes tokens) (parse_diagnostic bytes tokens) (IsParsed tokens) (IsParsed tokens) (IsParseFault tokens) (IsParseFault tokens) SameTree
    (λ t u h k. one_parsed tokens t u h k)
    (λ c d n m h k. ap (parse_diagnostic bytes tokens) (one_parse_fault tokens c d (λ e. n (ap (parse_why bytes tokens) e)) (λ e. m (ap (parse_why bytes tokens) e)) h k))
    (λ t d n h k. parsed_or_not tokens t d (λ e. n (ap (parse_why bytes tokens) e)) h k)
    (λ c t n h k. parsed_or_not tokens t c (λ e. n (ap (parse_why bytes tokens) e)) k h)

one-unit : (name bytes : List ℕ) → Agree SameTree (UnitReading name bytes) (UnitReading name bytes)
one-unit name bytes =
    agree-then (λ (t u : List Token). t ≡ u) SameTree (TokensReading name bytes) (TokensReading name bytes) (TreeReading name bytes) (TreeReading name bytes)
    (one-tokens name bytes) (λ t u e. subst (λ (x : List Token). Agree SameTree (TreeReading name bytes t) (TreeReading name bytes x)) e (one-tree name bytes t))

-- recordings

ok-ok : (r s : Sampled) (x : Result Sampled VcdFault) → x ≡ Ok r → x ≡ Ok s → r ≡ s
ok-ok r s x e f = cc

err-err : (c d : VcdFault) (x : Result Sampled VcdFault) → x ≡ Err c → x ≡ Err d → c ≡ d
err-err c d x e f = cc

ok-no-err : (r : Sampled) (d : VcdFault) (x : Result Sampled VcdFault) → x ≡ Ok r → x ≡ Err d → ⊥
ok-no-err r d x e f = cc

one-recording : (unknown : Unknown) (name bytes : List ℕ) → Agree (λ (r s : Sampled). r ≡ s) (RecordingReading unknown name bytes) (RecordingReading unknown name bytes)
one-recording unknown name bytes =
    agree-told name vcd_diagnostic vcd_diagnostic (λ sampled. reading unknown bytes ≡ Ok sampled) (λ sampled. reading unknown bytes ≡ Ok sampled)
    (λ fault. reading unknown bytes ≡ Err fault) (λ fault. reading unknown bytes ≡ Err fault) (λ (r s : Sampled). r ≡ s)
    (λ r s h k. ok-ok r s (reading unknown bytes) h k)
    (λ c d _ _ h k. ap vcd_diagnostic (err-err c d (reading unknown bytes) h k))
    (λ r d _ h k. ok-no-err r d (reading unknown bytes) h k) (λ c r _ h k. ok-no-err r c (reading unknown bytes) k h)

-- netlists

same-ok : (d e : Design) (r s : Result Design BlifFault) → r ≡ Ok d → s ≡ Ok e → r ≡ s → d ≡ e
same-ok d e r s p q same = cc

same-err : (c d : BlifFault) (r s : Result Design BlifFault) → r ≡ Err c → s ≡ Err d → r ≡ s → c ≡ d
same-err c d r s p q same = cc

ok-no-fault : (d : Design) (c : BlifFault) (r s : Result Design BlifFault) → r ≡ Ok d → s ≡ Err c → r ≡ s → ⊥
ok-no-fault d c r s p q same = cc

one-netlist : (name bytes : List ℕ) → Agree (λ (d e : Design). d ≡ e) (NetlistReading name bytes) (NetlistReading name bytes)
one-netlist name bytes =
    agree-told name blif_diagnostic blif_diagnostic (λ design. IsReading bytes (Ok design)) (λ design. IsReading bytes (Ok design))
    (λ fault. IsReading bytes (Err fault)) (λ fault. IsReading bytes (Err fault)) (λ (d e : Design). d ≡ e)
    (λ d e h k. same-ok d e (Ok d) (Ok e) refl refl (reading-one bytes (Ok d) (Ok e) h k))
    (λ c d _ _ h k. ap blif_diagnostic (same-err c d (Err c) (Err d) refl refl (reading-one bytes (Err c) (Err d) h k)))
    (λ d c _ h k. ok-no-fault d c (Ok d) (Err c) refl refl (reading-one bytes (Ok d) (Err c) h k)) (λ c d _ h k. ok-no-fault d c (Ok d) (Err c) refl refl (reading-one bytes (Ok d) (Err c) k h))

-- a text and a second file

module _ {A B : Type 0} (unit second : List ℕ) (Reading : List ℕ → Result A Fault → Type 0) (both : UnitTree → A → B) (files : Contents) (Same : B → B → Type 0)
    (same-both : (t u : UnitTree) (r s : A) → SameTree t u → r ≡ s → Same (both t r) (both u s)) where
  one-both : ((bytes : List ℕ) → Agree (λ (r s : A). r ≡ s) (Reading bytes) (Reading bytes))
      → Agree Same (TextAnd unit (OfFile Reading second) both files) (TextAnd unit (OfFile Reading second) both files)
  one-both one =
      agree-then SameTree Same (UnitStage unit files) (UnitStage unit files) (λ t. after t) (λ t. after t)
      (agree-content SameTree (UnitReading unit) (UnitReading unit) unit (files unit) (one-unit unit))
      (λ t u e. agree-then (λ (r s : A). r ≡ s) Same (OfFile Reading second files) (OfFile Reading second files)
      (λ r result. result ≡ Ok (both t r)) (λ r result. result ≡ Ok (both u r))
      (agree-content (λ (r s : A). r ≡ s) Reading Reading second (files second) one)
      (λ r s same a b h k. alike-ok Same (both t r) (both u s) a b h k (same-both t u r s e same)))
    where
      after : UnitTree → Result B Fault → Type 0
      after t = Then (OfFile Reading second) (λ value files result. result ≡ Ok (both t value)) files

pub record SameInputs (i j : Inputs) : Type 0 where
  pub trees : tree_node i.tree ≡ tree_node j.tree
  pub recordings : i.recording ≡ j.recording

one-inputs : (unknown : Unknown) (unit recording : List ℕ) (files : Contents) → Agree SameInputs (InputsStage unknown unit recording files) (InputsStage unknown unit recording files)
one-inputs unknown unit recording files =
    one-both unit recording (RecordingReading unknown recording) with_recording files SameInputs (λ t u r s e same. record { trees = e; recordings = same }) (one-recording unknown recording)

pub record SameCircuit (i j : Circuit) : Type 0 where
  pub trees : tree_node i.tree ≡ tree_node j.tree
  pub netlists : i.netlist ≡ j.netlist

one-circuit : (unit netlist : List ℕ) (files : Contents) → Agree SameCircuit (CircuitStage unit netlist files) (CircuitStage unit netlist files)
one-circuit unit netlist files =
    one-both unit netlist (NetlistReading netlist) with_netlist files SameCircuit (λ t u d e same netlists. record { trees = same; netlists = netlists }) (one-netlist netlist)

-- kinds and names

module _ (names : List Name) (t u : UnitTree) (flaws : tree_flaws names t ≡ tree_flaws names u) (kernels : kernel names t ≡ kernel names u) where
  moved-unit : (unit : List Directive) → IsUnit t names unit → IsUnit u names unit
  moved-unit unit is = record {
    no_flaw = sym flaws ∙ is.no_flaw;
    none_too_large = ap first_too_large (sym kernels) ∙ is.none_too_large;
    directives = is.directives ∙ ap (numbered 1) kernels;
  }

  moved-flaw : (cause : Cause) (place : Place) → IsFlawAt t names cause place → IsFlawAt u names cause place
  moved-flaw cause place h = subst (λ (all : List Flaw). IsFirstFlaw all (Some (record { place = place; cause = cause }))) flaws h

  moved-fault : (fault : LayerFault) → IsLayerFault t names fault → IsLayerFault u names fault
  moved-fault (layer.Kind place) h = moved-flaw causes.Kind place h
  moved-fault (layer.UnknownName place) h = moved-flaw causes.UnknownName place h
  moved-fault (layer.Ambiguous place) h = moved-flaw causes.Ambiguous place h
  moved-fault (layer.DeclaredTwice place) h = moved-flaw causes.DeclaredTwice place h
  moved-fault (layer.EmptyRange place) h = moved-flaw causes.EmptyRange place h
  moved-fault (layer.ConstantTooWide place) h = moved-flaw causes.ConstantTooWide place h
  moved-fault (layer.TooLarge place) h = record { no_flaw = sym flaws ∙ h.no_flaw; first = ap first_too_large (sym kernels) ∙ h.first }
  moved-fault layer.NoMemory h = h

-- no fault is there
flawless : (all : List Flaw) (flaw : Flaw) → all ≡ [] → IsFirstFlaw all (Some flaw) → ⊥
flawless all flaw e h = let h' : IsFirstFlaw [] (Some flaw) = subst (λ (x : List Flaw). IsFirstFlaw x (Some flaw)) e h in (let lt = h'.0.2 in omega arith)

none-first : (place : Place) (o : Option Place) → o ≡ None → o ≡ Some place → ⊥
none-first place o e f = cc

unit-or-fault : (t : UnitTree) (names : List Name) (unit : List Directive) (fault : LayerFault) → ((layer_diagnostic fault).reason ≢ NoMemory) → IsUnit t names unit → IsLayerFault t names fault → ⊥
unit-or-fault t names unit (layer.Kind place) n is h = flawless (tree_flaws names t) (record { place = place; cause = causes.Kind }) is.no_flaw h
unit-or-fault t names unit (layer.UnknownName place) n is h = flawless (tree_flaws names t) (record { place = place; cause = causes.UnknownName }) is.no_flaw h
unit-or-fault t names unit (layer.Ambiguous place) n is h = flawless (tree_flaws names t) (record { place = place; cause = causes.Ambiguous }) is.no_flaw h
unit-or-fault t names unit (layer.DeclaredTwice place) n is h = flawless (tree_flaws names t) (record { place = place; cause = causes.DeclaredTwice }) is.no_flaw h
unit-or-fault t names unit (layer.EmptyRange place) n is h = flawless (tree_flaws names t) (record { place = place; cause = causes.EmptyRange }) is.no_flaw h
unit-or-fault t names unit (layer.ConstantTooWide place) n is h = flawless (tree_flaws names t) (record { place = place; cause = causes.ConstantTooWide }) is.no_flaw h
unit-or-fault t names unit (layer.TooLarge place) n is h = none-first place (first_too_large (kernel names t)) is.none_too_large h.first
unit-or-fault t names unit layer.NoMemory n is h = absurd (n refl)

abbrev layer_why : LayerFault → Reason
layer_why fault = (layer_diagnostic fault).reason

one-directives : (name : List ℕ) (names : List Name) (t u : UnitTree) → SameTree t u → Agree SameUnit (DirectivesReading name t names) (DirectivesReading name u names)
one-directives name names t u same =
    let laws = same-tree names t u same in
    agree-told name layer_diagnostic layer_diagnostic (IsUnit t names) (IsUnit u names) (IsLayerFault t names) (IsLayerFault u names) SameUnit
    (λ v w h k. h.directives ∙ ap (numbered 1) laws.1 ∙ sym k.directives)
    (λ c d n m h k. ap layer_diagnostic (one_layer_fault u names c d (λ e. n (ap layer_why e)) (λ e. m (ap layer_why e)) (moved-fault names t u laws.0 laws.1 c h) k))
    (λ v d n h k. unit-or-fault u names v d n (moved-unit names t u laws.0 laws.1 v h) k)
    (λ c w n h k. unit-or-fault u names w c n k (moved-fault names t u laws.0 laws.1 c h))

-- verdicts

one-limit-said : (u v : List Directive) (c d : UnitFault) → SameUnit u v → ((judge_diagnostic u c).reason ≢ NoMemory) → ((judge_diagnostic v d).reason ≢ NoMemory)
    → IsJudgeFault u c → IsJudgeFault v d → judge_diagnostic u c ≡ judge_diagnostic v d
one-limit-said u v (units.TooLarge n l) (units.TooLarge m k) s some none h is =
    same-said u v (units.TooLarge n l) s ∙ ap (judge_diagnostic v) (one_judge_fault v n m l k (same-first u v n l s h) is)
one-limit-said u v (units.TooLarge n l) units.NoMemory s some none h is = absurd (none refl)
one-limit-said u v units.NoMemory d s some none h is = absurd (some refl)

judged-or-limit : (v : List Directive) (d : UnitFault) → ((judge_diagnostic v d).reason ≢ NoMemory) → All IsJudgeable v → IsJudgeFault v d → ⊥
judged-or-limit v (units.TooLarge n l) none all is = judged_or_not v n l all is
judged-or-limit v units.NoMemory none all is = none refl

moved-judge-fault : (u v : List Directive) (c : UnitFault) → SameUnit u v → IsJudgeFault u c → IsJudgeFault v c
moved-judge-fault u v (units.TooLarge n l) s is = same-first u v n l s is
moved-judge-fault u v units.NoMemory s is = tt

one-judged : (name : List ℕ) (r : Sampled) (u v : List Directive) → SameUnit u v → Agree (Any-two {A = List Verdict}) (JudgeReading name r u) (JudgeReading name r v)
one-judged name r u v s =
    agree-told name (judge_diagnostic u) (judge_diagnostic v) (AreJudged r u) (AreJudged r v) (IsJudgeFault u) (IsJudgeFault v) (Any-two {A = List Verdict})
    (λ _ _ _ _. tt)
    (λ c d n m h k. one-limit-said u v c d s n m h k)
    (λ w d n h k. judged-or-limit v d n (all-judgeable u v s h.judgeable) k)
    (λ c w n h k. judged-or-limit v c (λ is. n (ap (λ (x : Diagnostic). x.reason) (same-said u v c s) ∙ is)) k.judgeable (moved-judge-fault u v c s h))

one-settled : (points : Bool) (unknown : Unknown) (unit name : List ℕ) (r : Sampled) (u v : List Directive) → SameUnit u v
    → Agree (Any-two {A = Judgement}) (SettledReading points unknown unit name r u) (SettledReading points unknown unit name r v)
one-settled points unknown unit name r u v s =
    agree-then (Any-two {A = List Verdict}) (Any-two {A = Judgement}) (KnownReading unknown unit name r u) (KnownReading unknown unit name r v) (last u) (last v)
    (one-known unknown unit name r u v (Any-two {A = List Verdict}) s (one-judged unit r u v s))
    (λ w x _ a b h k. alike-ok (Any-two {A = Judgement}) (record { verdicts = w; settled = h.0 }) (record { verdicts = x; settled = k.0 }) a b h.2 k.2 tt)
  where
    last : List Directive → List Verdict → Result Judgement Fault → Type 0
    last directives verdicts result =
        (settled : Option (List (Option Settled))) × AreSettled points r directives verdicts settled × (result ≡ Ok (record { verdicts = verdicts; settled = settled }))

one-judged_inputs : (points : Bool) (unknown : Unknown) (unit name : List ℕ) (i j : Inputs) → SameInputs i j
    → Agree (Any-two {A = Judgement}) (JudgedReading points unknown unit name i) (JudgedReading points unknown unit name j)
one-judged_inputs points unknown unit name i j same =
    subst (λ (r : Sampled). Agree (Any-two {A = Judgement}) (JudgedReading points unknown unit name i) (AndThen (DirectivesReading unit j.tree r.names) (SettledReading points unknown unit name r)))
    same.recordings
    (agree-then SameUnit (Any-two {A = Judgement}) (DirectivesReading unit i.tree i.recording.names) (DirectivesReading unit j.tree i.recording.names)
    (SettledReading points unknown unit name i.recording) (SettledReading points unknown unit name i.recording)
    (one-directives unit i.recording.names i.tree j.tree same.trees)
    (λ u v s. one-settled points unknown unit name i.recording u v s))

one-lines : (name : List ℕ) (t u : UnitTree) (names names' : List Name) → SameTree t u → names ≡ names'
    → Agree (Any-two {A = List Line}) (LinesReading name t names) (LinesReading name u names')
one-lines name t u names names' same e =
    subst (λ (other : List Name). Agree (Any-two {A = List Line}) (LinesReading name t names) (LinesReading name u other)) e
    (agree-then SameUnit (Any-two {A = List Line}) (DirectivesReading name t names) (DirectivesReading name u names)
    (λ directives result. result ≡ Ok (map (line_of names) directives)) (λ directives result. result ≡ Ok (map (line_of names) directives))
    (one-directives name names t u same)
    (λ v w s a b h k. alike-ok (Any-two {A = List Line}) (map (line_of names) v) (map (line_of names) w) a b h k tt))

-- findings

pub record SameSubject (i j : Subject) : Type 0 where
  pub netlists : i.netlist ≡ j.netlist
  pub directives : SameUnit i.directives j.directives

one-directives-of : (unit : List ℕ) (i j : Circuit) → SameCircuit i j → Agree SameSubject (SubjectReading unit i) (SubjectReading unit j)
one-directives-of unit i j same =
    agree-then SameUnit SameSubject (DirectivesReading unit i.tree i.netlist.names) (DirectivesReading unit j.tree j.netlist.names)
    (λ u result. result ≡ Ok (subject_of i u)) (λ v result. result ≡ Ok (subject_of j v))
    (subst (λ (d : Design). Agree SameUnit (DirectivesReading unit i.tree i.netlist.names) (DirectivesReading unit j.tree d.names)) same.netlists
    (one-directives unit i.netlist.names i.tree j.tree same.trees))
    (λ u v s a b h k. alike-ok SameSubject (subject_of i u) (subject_of j v) a b h k (record { netlists = same.netlists; directives = s }))

pub one-subject : (unit netlist : List ℕ) (files : Contents) → Agree SameSubject (SubjectStage unit netlist files) (SubjectStage unit netlist files)
one-subject unit netlist files =
    agree-then SameCircuit SameSubject (CircuitStage unit netlist files) (CircuitStage unit netlist files) (SubjectReading unit) (SubjectReading unit)
    (one-circuit unit netlist files) (one-directives-of unit)

-- what is told of the fault of a unit
abbrev told-of : List ℕ → List ℕ → List Directive → UnitFault → Fault
told-of unit netlist v (units.TooLarge number limit) = limit_fault unit netlist v number limit
told-of unit netlist v units.NoMemory = of_none NoMemory

one-found-of : (unit netlist : List ℕ) (limits : Limits) (wanted : Wanted) (design : Design) (u v : List Directive) → SameUnit u v
    → Agree (Any-two {A = Found}) (FoundReading unit netlist limits wanted (record { netlist = design; directives = u }))
    (FoundReading unit netlist limits wanted (record { netlist = design; directives = v }))
one-found-of unit netlist limits wanted design u v s (Ok a) (Ok b) h k = tt
one-found-of unit netlist limits wanted design u v s (Ok a) (Err g) h (c, limit, first, _) =
    absurd (within_or_not design limits.depth limits.covers v c limit (are-within design limits.depth limits.covers u v s h.0) first)
one-found-of unit netlist limits wanted design u v s (Err f) (Ok b) (c, limit, first, _) k =
    absurd (within_or_not design limits.depth limits.covers v c limit k.0 (same-first-refused design limits.depth limits.covers u v s c limit first))
one-found-of unit netlist limits wanted design u v s (Err f) (Err g) (c, limit, first, e) (d, next, first', e') =
    let same = one_size_fault design limits.depth limits.covers v c d limit next (same-first-refused design limits.depth limits.covers u v s c limit first) first' in
    e ∙ same-limit-fault u v s unit netlist c limit ∙ ap (told-of unit netlist v) same ∙ sym e'

one-found : (unit netlist : List ℕ) (limits : Limits) (wanted : Wanted) (i j : Subject) → SameSubject i j
    → Agree (Any-two {A = Found}) (FoundReading unit netlist limits wanted i) (FoundReading unit netlist limits wanted j)
one-found unit netlist limits wanted i j same =
    subst (λ (d : Design). Agree (Any-two {A = Found}) (FoundReading unit netlist limits wanted i) (FoundReading unit netlist limits wanted (record { netlist = d; directives = j.directives }))) same.netlists
    (one-found-of unit netlist limits wanted i.netlist i.directives j.directives same.directives)

-- certificates

one-checked : (unit netlist : List ℕ) (number : ℕ) (i j : Subject) → SameSubject i j → (bytes : List ℕ)
    → Agree (Any-two {A = CheckedCert}) (CertReading unit netlist number i bytes) (CertReading unit netlist number j bytes)
one-checked unit netlist number i j same bytes =
    subst (λ (d : Design). Agree (Any-two {A = CheckedCert}) (CertReading unit netlist number i bytes)
    (CertReading unit netlist number (record { netlist = d; directives = j.directives }) bytes)) same.netlists
    (one-checked-of unit netlist number i.netlist bytes i.directives j.directives same.directives)

one-cert : (unit netlist : List ℕ) (number : ℕ) (certificate : List ℕ) (files : Contents) (i j : Subject) → SameSubject i j
    → Agree (Any-two {A = CheckedCert}) (CertStage unit netlist number certificate i files) (CertStage unit netlist number certificate j files)
one-cert unit netlist number certificate files i j same =
    agree-content (Any-two {A = CheckedCert}) (CertReading unit netlist number i) (CertReading unit netlist number j) certificate (files certificate)
    (one-checked unit netlist number i j same)

-- replays

one-name : (names : List Name) (first : Option ℕ) (a b : ℕ) (x y : List ℕ) → first ≡ Some a → first ≡ Some b → x ≡ first_text names a → y ≡ first_text names b → x ≡ y
one-name names first a b x y p q e d =
    let same : a ≡ b = cc in e ∙ ap (first_text names) same ∙ sym d

some-or-none : (first : Option ℕ) (signal : ℕ) → first ≡ None → first ≡ Some signal → ⊥
some-or-none first signal p q = cc

one-replay : (name : List ℕ) (design : Design) (recording : Sampled)
    → Agree (Any-two {A = Replay}) (ReplayReading name design recording) (ReplayReading name design recording)
one-replay name design recording (Ok a) (Ok b) h k = tt
one-replay name design recording (Ok a) (Err g) h (_, (signal, is, _), _) = absurd (some-or-none (first_missing design recording) signal h.none is)
one-replay name design recording (Err f) (Ok b) (_, (signal, is, _), _) k = absurd (some-or-none (first_missing design recording) signal k.none is)
one-replay name design recording (Err f) (Err g) (x, (a, p, e), is) (y, (b, q, d), are) =
    is ∙ ap (missing_in name) (one-name design.names (first_missing design recording) a b x y p q e d) ∙ sym are

one-replayed-of : (unit name : List ℕ) (t u : UnitTree) (design : Design) (recording : Sampled) → SameTree t u
    → Agree (Any-two {A = Replayed}) (ReplayedReading unit name (record { tree = t; netlist = design }) recording)
    (ReplayedReading unit name (record { tree = u; netlist = design }) recording)
one-replayed-of unit name t u design recording same =
    agree-then SameUnit (Any-two {A = Replayed}) (DirectivesReading unit t recording.names) (DirectivesReading unit u recording.names) rest rest
    (one-directives unit recording.names t u same)
    (λ v w s. agree-then (Any-two {A = Replay}) (Any-two {A = Replayed}) (ReplayReading name design recording) (ReplayReading name design recording)
    (λ answer. last answer v) (λ answer. last answer w) (one-replay name design recording)
    (λ a b _. agree-then (Any-two {A = List Verdict}) (Any-two {A = Replayed}) (JudgeReading unit recording v) (JudgeReading unit recording w)
    (λ verdicts result. result ≡ Ok (replayed_of recording a verdicts)) (λ verdicts result. result ≡ Ok (replayed_of recording b verdicts)) (one-judged unit recording v w s)
    (λ c d _ x y h k. alike-ok (Any-two {A = Replayed}) (replayed_of recording a c) (replayed_of recording b d) x y h k tt)))
  where
    last : Replay → List Directive → Result Replayed Fault → Type 0
    last answer directives = AndThen (JudgeReading unit recording directives) (λ verdicts result. result ≡ Ok (replayed_of recording answer verdicts))

    rest : List Directive → Result Replayed Fault → Type 0
    rest directives = AndThen (ReplayReading name design recording) (λ answer. last answer directives)

one-replayed : (unit name : List ℕ) (i j : Circuit) (r s : Sampled) → SameCircuit i j → r ≡ s
    → Agree (Any-two {A = Replayed}) (ReplayedReading unit name i r) (ReplayedReading unit name j s)
one-replayed unit name i j r s same recordings =
    subst (λ (x : Sampled). Agree (Any-two {A = Replayed}) (ReplayedReading unit name i r) (ReplayedReading unit name j x)) recordings
    (subst (λ (d : Design). Agree (Any-two {A = Replayed}) (ReplayedReading unit name i r) (ReplayedReading unit name (record { tree = j.tree; netlist = d }) r)) same.netlists
    (one-replayed-of unit name i.tree j.tree i.netlist r same.trees))

one-replayed-stage : (unit netlist name : List ℕ) (files : Contents)
    → Agree (Any-two {A = Replayed}) (ReplayStage unit netlist name files) (ReplayStage unit netlist name files)
one-replayed-stage unit netlist name files =
    agree-then SameCircuit (Any-two {A = Replayed}) (CircuitStage unit netlist files) (CircuitStage unit netlist files) (λ i. behind i) (λ j. behind j) (one-circuit unit netlist files)
    (λ i j same. agree-then (λ (r s : Sampled). r ≡ s) (Any-two {A = Replayed}) (RecordingStage Zero name files) (RecordingStage Zero name files)
    (ReplayedReading unit name i) (ReplayedReading unit name j)
    (agree-content (λ (r s : Sampled). r ≡ s) (RecordingReading Zero name) (RecordingReading Zero name) name (files name) (one-recording Zero name))
    (λ r s e. one-replayed unit name i j r s same e))
  where
    behind : Circuit → Result Replayed Fault → Type 0
    behind circuit = Then (RecordingStage Zero name) (λ recording _. ReplayedReading unit name circuit recording) files

-- commands: the stage of one gives one fault, or outcomes

one-outcome : {A : Type 0} (Same : A → A → Type 0) (Stage : Contents → Result A Fault → Type 0) (outcome : A → Outcome) (files : Contents) → Agree Same (Stage files) (Stage files)
    → Agree (Any-two {A = Outcome}) (Then Stage (λ value _ r. r ≡ Ok (outcome value)) files) (Then Stage (λ value _ r. r ≡ Ok (outcome value)) files)
one-outcome Same Stage outcome files one =
    agree-then Same (Any-two {A = Outcome}) (Stage files) (Stage files) (λ value r. r ≡ Ok (outcome value)) (λ value r. r ≡ Ok (outcome value)) one
    (λ v w _ a b h k. alike-ok (Any-two {A = Outcome}) (outcome v) (outcome w) a b h k tt)

-- of a reading over what is loaded
one-loaded : {A B : Type 0} (Same : A → A → Type 0) (Loaded : Contents → Result A Fault → Type 0) (Reading : A → Result B Fault → Type 0) (files : Contents)
    → Agree Same (Loaded files) (Loaded files) → ((i j : A) → Same i j → Agree (Any-two {A = B}) (Reading i) (Reading j))
    → Agree (Any-two {A = B}) (Then Loaded (λ loaded _. Reading loaded) files) (Then Loaded (λ loaded _. Reading loaded) files)
one-loaded {B = B} Same Loaded Reading files loaded one = agree-then Same (Any-two {A = B}) (Loaded files) (Loaded files) Reading Reading loaded one

one-made : (seed samples : ℕ) → Agree (Any-two {A = Outcome}) (GeneratedStage seed samples) (GeneratedStage seed samples)
one-made seed samples a b (v, _, e) (w, _, f) = alike-ok (Any-two {A = Outcome}) _ _ a b e f tt

one-meaning : (meaning : Meaning) (files : Contents) → Agree (Any-two {A = Outcome}) (MeaningStage meaning files) (MeaningStage meaning files)
one-meaning (wave unit recording unknown points) files =
    let bits = unknown_of unknown in
    one-outcome (Any-two {A = Judgement}) (WaveStage unit recording bits points) wave_outcome files
    (one-loaded SameInputs (InputsStage bits unit recording) (JudgedReading points bits unit recording) files (one-inputs bits unit recording files)
    (one-judged_inputs points bits unit recording))
one-meaning (show unit names) files =
    one-outcome (Any-two {A = List Line}) (ShowStage unit names) Shown files
    (one-loaded SameInputs (InputsStage Zero unit names) (λ inputs. LinesReading unit inputs.tree inputs.recording.names) files (one-inputs Zero unit names files)
    (λ i j same. one-lines unit i.tree j.tree i.recording.names j.recording.names same.trees (ap (λ (r : Sampled). r.names) same.recordings)))
one-meaning (show_netlist unit netlist) files =
    one-outcome (Any-two {A = List Line}) (ShowNetlistStage unit netlist) Shown files
    (one-loaded SameCircuit (CircuitStage unit netlist) (λ circuit. LinesReading unit circuit.tree circuit.netlist.names) files (one-circuit unit netlist files)
    (λ i j same. one-lines unit i.tree j.tree i.netlist.names j.netlist.names same.trees (ap (λ (d : Design). d.names) same.netlists)))
one-meaning (prove unit netlist limits wanted) files =
    one-outcome (Any-two {A = Found}) (ProveStage unit netlist limits wanted) (findings_outcome limits) files
    (one-loaded SameSubject (SubjectStage unit netlist) (FoundReading unit netlist limits wanted) files (one-subject unit netlist files) (one-found unit netlist limits wanted))
one-meaning (check unit netlist number certificate) files =
    one-outcome (Any-two {A = CheckedCert}) (CheckStage unit netlist number certificate) (Checked number) files
    (agree-then SameSubject (Any-two {A = CheckedCert}) (SubjectStage unit netlist files) (SubjectStage unit netlist files)
    (λ i. CertStage unit netlist number certificate i files) (λ j. CertStage unit netlist number certificate j files)
    (one-subject unit netlist files) (one-cert unit netlist number certificate files))
one-meaning (replay unit netlist name) files =
    one-outcome (Any-two {A = Replayed}) (ReplayStage unit netlist name) replayed_outcome files (one-replayed-stage unit netlist name files)
one-meaning (gen seed samples) files = one-made seed samples

-- words are one command at most

limit-small : sample_limit < 2 ^ 32
limit-small = omega arith

one-command : (words : List (List ℕ)) (files : Contents) → Agree (Any-two {A = Outcome}) (CommandStage words files) (CommandStage words files)
one-command words files a b (inl (_, e)) (inl (_, f)) = alike-err (Any-two {A = Outcome}) (of_none Usage) (of_none Usage) a b e f refl
one-command words files a b (inl (none, _)) (inr (meaning, is, _)) = absurd (none meaning is)
one-command words files a b (inr (meaning, is, _)) (inl (none, _)) = absurd (none meaning is)
one-command words files a b (inr (m, is, h)) (inr (n, is', k)) =
    one-meaning n files a b
    (subst (λ (x : Meaning). MeaningStage x files a) (one_meaning sample_limit words m n limit-small is is') h) k

pub one-first : (words : List (List ℕ)) (files : Contents) (a b : Option Fault) → FirstRefusal words files a → FirstRefusal words files b → a ≡ b
one-first words files a b (r, h, e) (s, k, f) =
    e ∙ agree-faults (Any-two {A = Outcome}) (CommandStage words files) (CommandStage words files) (one-command words files) r s h k ∙ sym f
