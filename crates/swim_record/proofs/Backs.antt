-- A line is known by its head and its arguments.
use Rattle.std.proofs.Common.{◌≡◌, ℕ, List, [], ◌∷◌, ◌++◌, sym, ◌∙◌, ap, refl, subst, Option, Some, None}
use Rattle.std.specs.Prelude.{All, IfSome, IfNone}
use Rattle.swim_words.specs.Words.{No}
use Rattle.swim_record.specs.Text.{IsArgument, SaysArguments, arguments_text, head_word}
use Rattle.swim_wire.specs.declared.update.UpdateKind.TheVariants.{Alive, Suspect, Confirm}
use Rattle.swim_member.specs.declared.state.Phase.{Phase}
use Rattle.swim_member.specs.declared.state.Phase.TheVariants as phase
use Rattle.swim_record.specs.declared.argument.Argument.{Argument}
use Rattle.swim_record.specs.declared.argument.Argument.TheVariants.{Number, Who}
use Rattle.swim_record.specs.declared.head.Head.{Head}
use Rattle.swim_record.specs.declared.head.Head.TheVariants as head
use Rattle.swim_record.specs.declared.line.Line.{Line}
use Rattle.swim_record.specs.declared.line.Line.TheVariants as line
use Rattle.swim_record.specs.Lines.{Says, arguments_of, head_in, number_or_none, phase_head}
use Rattle.swim_record.proofs.Texts.{same_words}

begun : Phase → List Argument → Option Line
begun p (Number n ∷ Number t ∷ Number s ∷ Number pl ∷ Number g ∷ []) = Some (line.Begin (record { phase = p; number = n; time = t; seq = s; place = pl; granted = g; past = None }))
begun p (Number n ∷ Number t ∷ Number s ∷ Number pl ∷ Number g ∷ Number m ∷ []) = Some (line.Begin (record { phase = p; number = n; time = t; seq = s; place = pl; granted = g; past = Some m }))
begun p _ = None

-- the line of a head and arguments
back_member : List Argument → Option Line
back_member (Number g ∷ Who me ∷ Number la ∷ Number r ∷ []) = Some (line.Member g me la r)
back_member _ = None

back_times : List Argument → Option Line
back_times (Number p ∷ Number d ∷ Number s ∷ Number f ∷ Number h ∷ Number b ∷ Number li ∷ []) = Some (line.Times (record { period = p; direct = d; suspect = s; forget = f; helpers = h; block = b; limit = li }))
back_times _ = None

-- of a member with its number and a time, of one with a sequence number, and of a number
timed : (ℕ → ℕ → ℕ → Line) → List Argument → Option Line
timed says (Who x ∷ Number n ∷ Number t ∷ []) = Some (says x n t)
timed says _ = None

asked : (ℕ → ℕ → Line) → List Argument → Option Line
asked says (Who x ∷ Number s ∷ []) = Some (says x s)
asked says _ = None

counted : (ℕ → Line) → List Argument → Option Line
counted says (Number n ∷ []) = Some (says n)
counted says _ = None

back_relay : List Argument → Option Line
back_relay (Who x ∷ Number s ∷ Who y ∷ Number r ∷ Number t ∷ []) = Some (line.Relay x s y r t)
back_relay _ = None

back_joining : List Argument → Option Line
back_joining (Who x ∷ Number s ∷ []) = Some (line.Joining x s)
back_joining (Who x ∷ Number s ∷ Who y ∷ []) = Some (line.JoiningAfter x s y)
back_joining _ = None

back_listed : List Argument → Option Line
back_listed (Who x ∷ []) = Some (line.Listed x)
back_listed _ = None

back : Head → List Argument → Option Line
back head.Member args = back_member args
back head.Times args = back_times args
back head.RowAlive args = timed (λ x n t. line.Row Alive x n t) args
back head.RowSuspect args = timed (λ x n t. line.Row Suspect x n t) args
back head.RowConfirm args = timed (λ x n t. line.Row Confirm x n t) args
back head.SayAlive args = timed (λ x n t. line.Say Alive x n t) args
back head.SaySuspect args = timed (λ x n t. line.Say Suspect x n t) args
back head.SayConfirm args = timed (λ x n t. line.Say Confirm x n t) args
back head.Probe args = asked (λ x s. line.Probe x s) args
back head.Answered args = asked (λ x s. line.Answered x s) args
back head.Relay args = back_relay args
back head.Joining args = back_joining args
back head.Listed args = back_listed args
back head.Caller args = counted (λ n. line.Caller n) args
back head.Granted args = counted (λ n. line.Granted n) args
back head.Lost args = counted (λ n. line.Lost n) args
back head.Running args = begun phase.Running args
back head.Left args = begun phase.Left args
back head.Expelled args = begun phase.Expelled args

back-begun : (p : Phase) (n t s pl g : ℕ) (past : Option ℕ) → back (phase_head p) (Number n ∷ Number t ∷ Number s ∷ Number pl ∷ Number g ∷ number_or_none past) ≡ Some (line.Begin (record { phase = p; number = n; time = t; seq = s; place = pl; granted = g; past = past }))
unfolding back begun
back-begun phase.Running n t s pl g None = refl
back-begun phase.Running n t s pl g (Some m) = refl
back-begun phase.Left n t s pl g None = refl
back-begun phase.Left n t s pl g (Some m) = refl
back-begun phase.Expelled n t s pl g None = refl
back-begun phase.Expelled n t s pl g (Some m) = refl

back-line : (l : Line) → back (head_in l) (arguments_of l) ≡ Some l
unfolding back back_member back_times timed asked counted back_relay back_joining back_listed
back-line (line.Row Alive x n t) = refl
back-line (line.Row Suspect x n t) = refl
back-line (line.Row Confirm x n t) = refl
back-line (line.Say Alive x n t) = refl
back-line (line.Say Suspect x n t) = refl
back-line (line.Say Confirm x n t) = refl
back-line (line.Begin start) = back-begun start.phase start.number start.time start.seq start.place start.granted start.past
back-line _ = refl

-- a text says one line
pub same_line : (text : List ℕ) (l m : Line) → Says text l → Says text m → l ≡ m
same_line text l m one other =
    let words = same_words text l m one other in
    let both : Some l ≡ Some m = sym (back-line l) ∙ ap (λ (h : Head). back h (arguments_of l)) words.0 ∙ ap (λ (args : List Argument). back (head_in m) args) words.1 ∙ back-line m in
    cc

-- what was read of a text is whatever line it says
pub read_back : (o : Option Line) (text word rest : List ℕ) (h : Head) (args : List Argument) → text ≡ word ++ rest → word ≡ head_word h → SaysArguments rest args → IfSome o (λ l. (head_in l ≡ h) × (arguments_of l ≡ args)) → IfNone o (No (Says text)) → (l : Line) → Says text l → o ≡ Some l
read_back None text word rest h args parts spelled said some none l says = absurd (none l says)
read_back (Some m) text word rest h args parts spelled said some none l says =
    let spells : text ≡ head_word (head_in m) ++ arguments_text (arguments_of m) =
    parts
    ∙ ap (λ (w : List ℕ). w ++ rest) (spelled ∙ ap head_word (sym some.0))
    ∙ ap (λ (r : List ℕ). head_word (head_in m) ++ r) (said.0 ∙ ap arguments_text (sym some.1)) in
    let fits = subst (λ (words : List Argument). All IsArgument words) (sym some.1) said.1 in
    ap (λ (x : Line). Some x) (same_line text m l (spells, fits) says)
