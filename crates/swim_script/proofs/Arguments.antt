-- What the arguments of a line are, where it says a command.
use Rattle.std.proofs.Common.{◌≡◌, ℕ, ◌+◌, ◌%◌, ◌^◌, ◌<◌, ◌≤◌, List, [], ◌∷◌, map, length, inl, inr, refl, sym, subst, ap, ◌∙◌, arith}
use Rattle.std.specs.Prelude.{◌≢◌, codes}
use Rattle.std.specs.List.{range_with_len}
use Rattle.std.specs.Fmt.{decimal}
use Rattle.std.proofs.lemmas.Fmt.{decimal_injective}
use Rattle.swim_wire.specs.Numbers.{IsEndpoint}
use Rattle.swim_rules.specs.Deals.{deal_from}
use Rattle.swim_member.specs.declared.event.Event.TheVariants as event
use Rattle.swim_disk.specs.declared.mem.Choice.{Choice}
use Rattle.swim_disk.specs.declared.mem.Choice.TheVariants.{Keep, Drop, Fill}
use Rattle.swim_script.specs.declared.command.Command.{Command}
use Rattle.swim_script.specs.declared.command.Command.TheVariants.{Group, Me, Set, Start, Init, Open, Happen, Plan, Kill, Crash, Overwrite, Slots, Rebase, KeepPeers, Peers}
use Rattle.swim_script.specs.declared.command.Setting.{Setting}
use Rattle.swim_script.specs.declared.command.Failure.{Failure}
use Rattle.swim_script.specs.declared.command.Failure.TheVariants as failure
use Rattle.swim_script.specs.declared.keyword.Keyword.{Keyword}
use Rattle.swim_script.specs.declared.keyword.Keyword.TheVariants as keyword
use Rattle.swim_words.specs.Words.{No, Lacks, spaced, SaysEndpoint, SaysNumber, endpoint_text}
use Rattle.swim_script.specs.Bytes.{IsBytes, IsCut}
use Rattle.swim_script.specs.Commands.{BeginsWith, IsFailure, IsCall, IsKeyword, IsSetting, Says, SaysChoice, SaysFailure, keyword_text, line_of, setting_text}
use Rattle.swim_script.proofs.Keywords.{keyword_lacks, not_alone, other_line, same_line, setting_lacks}
use Rattle.swim_words.proofs.Splits.{lacks_byte, no_split, same_split}
use Rattle.swim_words.proofs.Digits.{lacks_decimal}
use Rattle.swim_words.proofs.Endpoints.{endpoint_lacks}
use Rattle.swim_script.proofs.Hex.{same_bytes}

-- the arguments of a line that sets, ticks, receives or overwrites
record IsSet (args : List ℕ) : Type 0 where
  setting : Setting
  n : ℕ
  small : n ≤ 1000000
  is : args ≡ spaced (setting_text setting) (decimal n)

record IsNumbered (args : List ℕ) : Type 0 where
  number : ℕ
  small : number < 2 ^ 32
  is : args ≡ decimal number

record IsFrom (args : List ℕ) : Type 0 where
  from : ℕ
  word : List ℕ
  bytes : List ℕ
  sender : IsEndpoint from
  hex : IsCut word bytes
  is : args ≡ spaced (endpoint_text from) word

record IsOver (args : List ℕ) : Type 0 where
  at : ℕ
  word : List ℕ
  bytes : List ℕ
  fits : at + length bytes ≤ 65536
  hex : IsBytes word bytes
  is : args ≡ spaced (decimal at) word

-- what the keyword takes, as far as a lemma below asks
abbrev Takes : Keyword → List ℕ → Type 0
Takes keyword.Set args = IsSet args
Takes keyword.Tick args = IsNumbered args
Takes keyword.Receive args = IsFrom args
Takes keyword.Overwrite args = IsOver args
Takes _ args = Unit {0}

-- what a line's own keyword takes is what another takes that the line begins with
along : (j k : Keyword) (args others : List ℕ) → line_of j args ≡ line_of k others → Takes k others → Takes j args
along j k args others is takes =
    let same = same_line j k args others is in
    subst (λ (i : Keyword). Takes i args) (sym same.0) (subst (Takes k) (sym same.1) takes)

takes : (j : Keyword) (args : List ℕ) (command : Command) → Says (line_of j args) command → Takes j args
takes j args (Group n) says = along j keyword.Group args (decimal n) says.0 tt
takes j args (Me e) says = along j keyword.Me args (endpoint_text e) says.0 tt
takes j args (Set s n) says = along j keyword.Set args (spaced (setting_text s) (decimal n)) says.0 (record { setting = s; n = n; small = says.1; is = refl })
takes j args (Start first) says = along j keyword.Start args (decimal first.value) says tt
takes j args (Init n) says = along j keyword.Init args (decimal n) says.0 tt
takes j args Open says = absurd (not_alone j keyword.Open args says)
takes j args (Happen (event.Tick deal)) says = along j keyword.Tick args (decimal says.number) says.says (record { number = says.number; small = says.small; is = refl })
takes j args (Happen (event.Datagram from bytes)) says = along j keyword.Receive args (spaced (endpoint_text from) says.word) says.says (record { from = from; word = says.word; bytes = bytes.items; sender = says.sender; hex = says.hex; is = refl })
takes j args (Happen event.ReceiveFailed) says = absurd (not_alone j keyword.ReceiveFailed args says)
takes j args (Happen (event.SendFailed count)) says = along j keyword.SendFailed args (decimal count) says.0 tt
takes j args (Happen (event.Join peer)) says = along j keyword.Join args (endpoint_text peer) says.0 tt
takes j args (Happen event.Leave) says = absurd (not_alone j keyword.Leave args says)
takes j args (Happen (event.Members after)) (inl says) = absurd (not_alone j keyword.Members args says.0)
takes j args (Happen (event.Members after)) (inr says) = along j keyword.Members args (endpoint_text after) says.0 tt
takes j args (Plan (failure.Read k)) says = along j keyword.Fail args (spaced (codes "read") (decimal k)) says.0 tt
takes j args (Plan (failure.Write k)) says = along j keyword.Fail args (spaced (codes "write") (decimal k)) says.0 tt
takes j args (Plan (failure.TornWrite k)) says = along j keyword.Tear args (spaced (codes "write") (decimal k)) says.0 tt
takes j args (Plan (failure.Sync k)) says = along j keyword.Fail args (spaced (codes "sync") (decimal k)) says.0 tt
takes j args (Plan (failure.Send k)) says = along j keyword.Fail args (spaced (codes "send") (decimal k)) says.0 tt
takes j args (Plan (failure.Halt k)) says = along j keyword.Halt args (decimal k) says.0 tt
takes j args Kill says = absurd (not_alone j keyword.Kill args says)
takes j args (Crash choice) says = along j keyword.Crash args says.word says.says tt
takes j args (Overwrite patch) says = along j keyword.Overwrite args (spaced (decimal patch.at) says.word) says.says (record { at = patch.at; word = says.word; bytes = patch.bytes.items; fits = patch.fits; hex = says.hex; is = refl })
takes j args Slots says = absurd (not_alone j keyword.Slots args says)
takes j args Rebase says = absurd (not_alone j keyword.Rebase args says)
takes j args KeepPeers says = absurd (not_alone j keyword.Keep args says)
takes j args Peers says = absurd (not_alone j keyword.Peers args says)

-- where the arguments have no space, or the word before it is none of those that may stand there, no command is said
pub set_uncut : (args : List ℕ) → Lacks 32 args → No (Says (line_of keyword.Set args))
set_uncut args lacks command says =
    let is = takes keyword.Set args command says in
    no_split 32 (setting_text is.setting) (decimal is.n) args lacks is.is

pub set_none : (args word number : List ℕ) → args ≡ spaced word number → Lacks 32 word → No (IsSetting word) → No (Says (line_of keyword.Set args))
set_none args word number cut lacks none command says =
    let is = takes keyword.Set args command says in
    none is.setting (same_split 32 args word number (setting_text is.setting) (decimal is.n) lacks cut (setting_lacks is.setting) is.is).0

-- a tick's arguments are a number of 32 bits
pub tick_none : (args : List ℕ) → No (SaysNumber args 0 4294967295) → No (Says (line_of keyword.Tick args))
tick_none args none command says =
    let is = takes keyword.Tick args command says in
    let small = is.small in
    none is.number (record { says = is.is; at_least = omega arith; at_most = omega arith })

-- a deal begins with a number as it does with what is left of it by 256
pub deal-around : (n : ℕ) → deal_from (n % 256) ≡ deal_from n
deal-around n = around n (range_with_len 0 256)
  where
    around : (n : ℕ) (places : List ℕ) → map (λ i. (n % 256 + i) % 256) places ≡ map (λ i. (n + i) % 256) places
    around n [] = refl
    around n (i ∷ places) =
        let one : (n % 256 + i) % 256 ≡ (n + i) % 256 = omega arith in
        ap (λ m. m ∷ map (λ i. (n % 256 + i) % 256) places) one ∙ ap (λ ms. (n + i) % 256 ∷ ms) (around n places)

-- the word of the call that is to fail, and which of those calls
record IsFailing (args : List ℕ) (f : Failure) : Type 0 where
  word : List ℕ
  k : ℕ
  is : args ≡ spaced word (decimal k)
  one : Lacks 32 word
  call : IsCall k
  failure : IsFailure word k f

failing : (args : List ℕ) (f : Failure) → SaysFailure (line_of keyword.Fail args) f → IsFailing args f
failing args (failure.Read k) says = record { word = codes "read"; k = k; is = (same_line keyword.Fail keyword.Fail args _ says.0).1; one = lacks_byte 32 (codes "read") refl; call = says.1; failure = (refl, refl) }
failing args (failure.Write k) says = record { word = codes "write"; k = k; is = (same_line keyword.Fail keyword.Fail args _ says.0).1; one = lacks_byte 32 (codes "write") refl; call = says.1; failure = (refl, refl) }
failing args (failure.Sync k) says = record { word = codes "sync"; k = k; is = (same_line keyword.Fail keyword.Fail args _ says.0).1; one = lacks_byte 32 (codes "sync") refl; call = says.1; failure = (refl, refl) }
failing args (failure.Send k) says = record { word = codes "send"; k = k; is = (same_line keyword.Fail keyword.Fail args _ says.0).1; one = lacks_byte 32 (codes "send") refl; call = says.1; failure = (refl, refl) }
failing args (failure.TornWrite k) says = absurd (other_line keyword.Fail keyword.Tear args _ (λ same. cc) says.0)
failing args (failure.Halt k) says = absurd (other_line keyword.Fail keyword.Halt args _ (λ same. cc) says.0)

pub fail_uncut : (args : List ℕ) → Lacks 32 args → No (SaysFailure (line_of keyword.Fail args))
fail_uncut args lacks f says = let is = failing args f says in no_split 32 is.word (decimal is.k) args lacks is.is

fail_parts : (args word number : List ℕ) (f : Failure) → args ≡ spaced word number → Lacks 32 word → (is : IsFailing args f) → (word ≡ is.word) × (number ≡ decimal is.k)
fail_parts args word number f cut lacks is = same_split 32 args word number is.word (decimal is.k) lacks cut is.one is.is

pub fail_number : (args word number : List ℕ) → args ≡ spaced word number → Lacks 32 word → No (SaysNumber number 1 1000000) → No (SaysFailure (line_of keyword.Fail args))
fail_number args word number cut lacks none f says =
    let is = failing args f says in
    none is.k (record { says = (fail_parts args word number f cut lacks is).1; at_least = is.call.0; at_most = is.call.1 })

pub fail_other : (args word number : List ℕ) (k : ℕ) → args ≡ spaced word number → Lacks 32 word → SaysNumber number 1 1000000 k → k < 2 ^ 32 → No (IsFailure word k) → No (SaysFailure (line_of keyword.Fail args))
fail_other args word number k cut lacks is small none f says =
    let call = failing args f says in
    let parts = fail_parts args word number f cut lacks call in
    let bound = call.call.1 in
    let same = decimal_injective k call.k (omega arith) (omega arith) (sym is.says ∙ parts.1) in
    none f (subst (λ (n : ℕ). IsFailure word n f) (sym same) (subst (λ (w : List ℕ). IsFailure w call.k f) (sym parts.0) call.failure))

-- the write that is to be torn
torn : (args : List ℕ) (f : Failure) → SaysFailure (line_of keyword.Tear args) f → (k : ℕ) × (args ≡ spaced (codes "write") (decimal k))
torn args (failure.TornWrite k) says = (k, (same_line keyword.Tear keyword.Tear args _ says.0).1)
torn args (failure.Read k) says = absurd (other_line keyword.Tear keyword.Fail args _ (λ same. cc) says.0)
torn args (failure.Write k) says = absurd (other_line keyword.Tear keyword.Fail args _ (λ same. cc) says.0)
torn args (failure.Sync k) says = absurd (other_line keyword.Tear keyword.Fail args _ (λ same. cc) says.0)
torn args (failure.Send k) says = absurd (other_line keyword.Tear keyword.Fail args _ (λ same. cc) says.0)
torn args (failure.Halt k) says = absurd (other_line keyword.Tear keyword.Halt args _ (λ same. cc) says.0)

pub tear_uncut : (args : List ℕ) → Lacks 32 args → No (SaysFailure (line_of keyword.Tear args))
tear_uncut args lacks f says = let is = torn args f says in no_split 32 (codes "write") (decimal is.0) args lacks is.1

pub tear_other : (args word number : List ℕ) → args ≡ spaced word number → Lacks 32 word → word ≢ codes "write" → No (SaysFailure (line_of keyword.Tear args))
tear_other args word number cut lacks other f says =
    let is = torn args f says in
    other (same_split 32 args word number (codes "write") (decimal is.0) lacks cut (lacks_byte 32 (codes "write") refl) is.1).0

pub received_uncut : (args : List ℕ) → Lacks 32 args → No (Says (line_of keyword.Receive args))
received_uncut args lacks command says =
    let is = takes keyword.Receive args command says in
    no_split 32 (endpoint_text is.from) is.word args lacks is.is

received_parts : (args from word : List ℕ) → args ≡ spaced from word → Lacks 32 from → (is : IsFrom args) → (from ≡ endpoint_text is.from) × (word ≡ is.word)
received_parts args from word cut lacks is =
    same_split 32 args from word (endpoint_text is.from) is.word lacks cut (endpoint_lacks is.from is.sender) is.is

pub received_from : (args from word : List ℕ) → args ≡ spaced from word → Lacks 32 from → No (SaysEndpoint from) → No (Says (line_of keyword.Receive args))
received_from args from word cut lacks none command says =
    let is = takes keyword.Receive args command says in
    none is.from (record { says = (received_parts args from word cut lacks is).0; endpoint = is.sender })

pub received_hex : (args from word : List ℕ) → args ≡ spaced from word → Lacks 32 from → (command : Command) → Says (line_of keyword.Receive args) command → (bytes : List ℕ) × IsCut word bytes
received_hex args from word cut lacks command says =
    let is = takes keyword.Receive args command says in
    (is.bytes, subst (λ (w : List ℕ). IsCut w is.bytes) (sym (received_parts args from word cut lacks is).1) is.hex)

pub over_uncut : (args : List ℕ) → Lacks 32 args → No (Says (line_of keyword.Overwrite args))
over_uncut args lacks command says =
    let is = takes keyword.Overwrite args command says in
    no_split 32 (decimal is.at) is.word args lacks is.is

over_parts : (args at word : List ℕ) → args ≡ spaced at word → Lacks 32 at → (is : IsOver args) → (at ≡ decimal is.at) × (word ≡ is.word)
over_parts args at word cut lacks is =
    let fits = is.fits in
    same_split 32 args at word (decimal is.at) is.word lacks cut (lacks_decimal 32 is.at (omega arith) (inl (omega arith))) is.is

pub over_at : (args at word : List ℕ) → args ≡ spaced at word → Lacks 32 at → ((n : ℕ) → n < 2 ^ 64 → at ≢ decimal n) → No (Says (line_of keyword.Overwrite args))
over_at args at word cut lacks none command says =
    let is = takes keyword.Overwrite args command says in
    let fits = is.fits in
    none is.at (omega arith) (over_parts args at word cut lacks is).0

pub over_hex : (args at word : List ℕ) → args ≡ spaced at word → Lacks 32 at → (command : Command) → Says (line_of keyword.Overwrite args) command → (bytes : List ℕ) × IsBytes word bytes
over_hex args at word cut lacks command says =
    let is = takes keyword.Overwrite args command says in
    (is.bytes, subst (λ (w : List ℕ). IsBytes w is.bytes) (sym (over_parts args at word cut lacks is).1) is.hex)

pub over_end : (args at word bytes : List ℕ) (n : ℕ) → args ≡ spaced at word → Lacks 32 at → at ≡ decimal n → n < 2 ^ 64 → IsBytes word bytes → 65536 < n + length bytes → No (Says (line_of keyword.Overwrite args))
over_end args at word bytes n cut lacks number small hex past command says =
    let is = takes keyword.Overwrite args command says in
    let fits = is.fits in
    let parts = over_parts args at word cut lacks is in
    let offset = decimal_injective n is.at small (omega arith) (sym number ∙ parts.0) in
    let same = same_bytes word bytes is.bytes hex (subst (λ (w : List ℕ). IsBytes w is.bytes) (sym parts.1) is.hex) in
    omega (arith, ap length same)

-- the choice of what a crash leaves, where it isn't a word alone
filled : (args : List ℕ) (choice : Choice) → args ≢ codes "keep" → args ≢ codes "drop" → SaysChoice args choice → (word : List ℕ) × (args ≡ spaced (codes "fill") word)
filled args Keep keep dropped says = absurd (keep says)
filled args Drop keep dropped says = absurd (dropped says)
filled args (Fill byte) keep dropped says = (says.0, says.1)

pub fill_uncut : (args : List ℕ) → args ≢ codes "keep" → args ≢ codes "drop" → Lacks 32 args → No (SaysChoice args)
fill_uncut args keep dropped lacks choice says =
    let is = filled args choice keep dropped says in
    no_split 32 (codes "fill") is.0 args lacks is.1

pub fill_other : (args fill word : List ℕ) → args ≢ codes "keep" → args ≢ codes "drop" → args ≡ spaced fill word → Lacks 32 fill → fill ≢ codes "fill" → No (SaysChoice args)
fill_other args fill word keep dropped cut lacks other choice says =
    let is = filled args choice keep dropped says in
    other (same_split 32 args fill word (codes "fill") is.0 lacks cut (lacks_byte 32 (codes "fill") refl) is.1).0

-- a line whose first word is no keyword begins with none
pub alone_unknown : (text : List ℕ) → Lacks 32 text → No (IsKeyword text) → No (BeginsWith text)
alone_unknown text lacks none k (inl says) = none k says
alone_unknown text lacks none k (inr (rest, says)) = no_split 32 (keyword_text k) rest text lacks says

pub word_unknown : (text word rest : List ℕ) → text ≡ spaced word rest → Lacks 32 word → No (IsKeyword word) → No (BeginsWith text)
word_unknown text word rest cut lacks none k (inl says) = no_split 32 word rest (keyword_text k) (keyword_lacks k) (sym says ∙ cut)
word_unknown text word rest cut lacks none k (inr (after, says)) =
    none k (same_split 32 text word rest (keyword_text k) after lacks cut (keyword_lacks k) says).0
