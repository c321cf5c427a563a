-- What a line records, and that it comes before what is sent.
use Rattle.std.proofs.Common.{◌≡◌, ◌∙◌, ℕ, true, false, List, [], ◌∷◌, ◌++◌, None, ap, append-nil, append_assoc, arith, map, refl, subst, sym, true≢false}
use Rattle.std.specs.Prelude.{All, AllPairs, Option, Some}
use Rattle.std.proofs.lemmas.List.Elements.{All-append, All-cons, All-head, All-nil, All-tail}
use Rattle.std.proofs.lemmas.List.Kept.{AllPairs-cons}
use Rattle.wb_names.specs.Values.{DrawopValue}
use Rattle.wb_names.specs.declared.echo.Echo.{Echo}
use Rattle.wb_codec.specs.declared.datagram.Datagram.{Datagram}
use Rattle.wb_judge.specs.Adding.{own_echo}
use Rattle.wb_judge.specs.declared.origin.Origin.{Origin}
use Rattle.wb_judge.specs.declared.verdict.Warning.{Warning}
use Rattle.wb_judge.specs.declared.verdict.Why.{Why}
use Rattle.wb_judging.specs.Events.{became_events, drew_event, dropped_events, fetch_events, record_events, send_event, warn_events}
use Rattle.wb_judging.specs.Handing.{facts_of, handed, verdict_on}
use Rattle.wb_judging.specs.Judged.{Call, CameFrom, Held, Judged, Passed, UserDrew, moment_of}
use Rattle.wb_judging.specs.Laws.{RecordsComeFirst, is_record, is_send, lines_in}
use Rattle.wb_judging.specs.Performing.{events_of, fate_by, first_events, gained, judging, last_events, lines_of, sent_by_kept_line}
use Rattle.wb_judging.specs.declared.event.Event.{Event}
use Rattle.wb_judging.specs.declared.event.Event.TheVariants.{Became, Dropped, Drew, Fetch, NoDatagram, Record, Send, Warn}
use Rattle.wb_judging.specs.declared.event.Fate.{Fate}
use Rattle.wb_judging.specs.declared.record.RecordLine.{RecordLine}
use Rattle.wb_judging.specs.declared.record.RecordLine.TheVariants.{Tick}
use Rattle.wb_judging.proofs.NewsTold.{news_aside}

lines_both : (one other : List Event) → lines_in (one ++ other) ≡ lines_in one ++ lines_in other
lines_both [] other = refl
lines_both (Record line ∷ one) other = ap (λ (ls : List RecordLine). line ∷ ls) (lines_both one other)
lines_both (NoDatagram ∷ one) other = lines_both one other
lines_both (Dropped why ∷ one) other = lines_both one other
lines_both (Drew name ∷ one) other = lines_both one other
lines_both (Send v ∷ one) other = lines_both one other
lines_both (Became fate ∷ one) other = lines_both one other
lines_both (Fetch o lacking ∷ one) other = lines_both one other
lines_both (Warn warning ∷ one) other = lines_both one other

-- ---- events of other kinds

abbrev Unrecorded : List Event → Type 0
Unrecorded = All (λ (e : Event). is_record e ≡ false)

none_recorded : (es : List Event) → Unrecorded es → lines_in es ≡ []
none_recorded [] none = refl
none_recorded (e ∷ es) none = by e (All-head (λ (e : Event). is_record e ≡ false) e es none) (none_recorded es (All-tail (λ (e : Event). is_record e ≡ false) e es none)) where
  by : (e : Event) → is_record e ≡ false → lines_in es ≡ [] → lines_in (e ∷ es) ≡ []
  by (Record line) is more = absurd (true≢false is)
  by NoDatagram is more = more
  by (Dropped why) is more = more
  by (Drew name) is more = more
  by (Send v) is more = more
  by (Became fate) is more = more
  by (Fetch o lacking) is more = more
  by (Warn warning) is more = more

un_nil : Unrecorded []
un_nil = All-nil (λ (e : Event). is_record e ≡ false)

un_one : (e : Event) → is_record e ≡ false → Unrecorded (e ∷ [])
un_one e is = All-cons (λ (e : Event). is_record e ≡ false) e [] is un_nil

un_both : (one other : List Event) → Unrecorded one → Unrecorded other → Unrecorded (one ++ other)
un_both one other = All-append (λ (e : Event). is_record e ≡ false) one other

un_drew : (ds : List DrawopValue) → Unrecorded (map drew_event ds)
un_drew [] = un_nil
un_drew (d ∷ ds) = All-cons (λ (e : Event). is_record e ≡ false) (drew_event d) (map drew_event ds) refl (un_drew ds)

un_sent : (echo : Option Echo) (sent : List Datagram) → Unrecorded (map (send_event echo) sent)
un_sent echo [] = un_nil
un_sent echo (v ∷ sent) = All-cons (λ (e : Event). is_record e ≡ false) (send_event echo v) (map (send_event echo) sent) refl (un_sent echo sent)

un_became : (fate : Option Fate) → Unrecorded (became_events fate)
un_became None = un_nil
un_became (Some fate) = un_one (Became fate) refl

un_dropped : (why : Option Why) → Unrecorded (dropped_events why)
un_dropped None = un_nil
un_dropped (Some why) = un_one (Dropped why) refl

un_fetch : (fetch : Option Origin) (lacking : ℕ) → Unrecorded (fetch_events fetch lacking)
un_fetch None lacking = un_nil
un_fetch (Some o) lacking = un_one (Fetch o lacking) refl

un_warn : (warning : Option Warning) → Unrecorded (warn_events warning)
un_warn None = un_nil
un_warn (Some warning) = un_one (Warn warning) refl

un_first : (line : Call) (h : Judged) → Unrecorded (first_events line h)
un_first (CameFrom now o v) h = un_dropped (verdict_on now o v h).why
un_first (Passed now news) h = (news_aside news).unrecorded
un_first (UserDrew now page op) h = un_nil
un_first (Held line) h = un_nil

un_last : (line : Call) (h : Judged) → Unrecorded (last_events line h)
un_last (CameFrom now o v) h = let r = verdict_on now o v h in un_both (fetch_events r.fetch (facts_of now v h.kept).lacking) (warn_events r.warning) (un_fetch r.fetch (facts_of now v h.kept).lacking) (un_warn r.warning)
un_last (Passed now news) h = un_nil
un_last (UserDrew now page op) h = un_nil
un_last (Held line) h = un_nil

-- ---- one line, and many

-- after the records of a line nothing is recorded
abbrev records_of : Call → Judged → List Event
records_of line h = record_events (moment_of line h) (lines_of line h)

abbrev sends_of : Call → Judged → List Event
sends_of line h = map (send_event (own_echo (moment_of line h) (judging line h))) (sent_by_kept_line (handed line h) h.kept) ++ became_events (fate_by (handed line h) h.kept)

un_sends : (line : Call) (h : Judged) → Unrecorded (sends_of line h)
un_sends line h =
    un_both (map (send_event (own_echo (moment_of line h) (judging line h))) (sent_by_kept_line (handed line h) h.kept)) (became_events (fate_by (handed line h) h.kept))
    (un_sent (own_echo (moment_of line h) (judging line h)) (sent_by_kept_line (handed line h) h.kept)) (un_became (fate_by (handed line h) h.kept))

-- the lines of the record, with their moment before them
abbrev pub noted : ℕ → List RecordLine → List RecordLine
noted now [] = []
noted now (line ∷ lines) = Tick now ∷ line ∷ lines

lines_each : (lines : List RecordLine) → lines_in (map Record lines) ≡ lines
lines_each [] = refl
lines_each (line ∷ lines) = ap (λ (ls : List RecordLine). line ∷ ls) (lines_each lines)

lines_noted : (now : ℕ) (lines : List RecordLine) → lines_in (record_events now lines) ≡ noted now lines
lines_noted now [] = refl
lines_noted now (line ∷ lines) = ap (λ (ls : List RecordLine). Tick now ∷ ls) (lines_each (line ∷ lines))

-- what a line records
pub line_recorded : (line : Call) (h : Judged) → lines_in (events_of line h) ≡ noted (moment_of line h) (lines_of line h)
line_recorded line h =
    let ds = gained (handed line h) h.kept in
    let records = records_of line h in
    let drew = map drew_event ds in
    let sends = sends_of line h in
    let last = last_events line h in
    lines_both (first_events line h) (((records ++ drew) ++ sends) ++ last)
    ∙ ap (λ (es : List RecordLine). es ++ lines_in (((records ++ drew) ++ sends) ++ last)) (none_recorded (first_events line h) (un_first line h))
    ∙ lines_both ((records ++ drew) ++ sends) last
    ∙ ap (λ (es : List RecordLine). lines_in ((records ++ drew) ++ sends) ++ es) (none_recorded last (un_last line h))
    ∙ append-nil (lines_in ((records ++ drew) ++ sends))
    ∙ lines_both (records ++ drew) sends
    ∙ ap (λ (es : List RecordLine). lines_in (records ++ drew) ++ es) (none_recorded sends (un_sends line h))
    ∙ append-nil (lines_in (records ++ drew))
    ∙ lines_both records drew
    ∙ ap (λ (es : List RecordLine). lines_in records ++ es) (none_recorded drew (un_drew ds))
    ∙ append-nil (lines_in records)
    ∙ lines_noted (moment_of line h) (lines_of line h)

-- ---- records come first

abbrev InOrder : Event → Event → Type 0
InOrder one other = is_send one ≡ true → is_record other ≡ false

abbrev Unsent : List Event → Type 0
Unsent = All (λ (e : Event). is_send e ≡ false)

-- if nothing is recorded
un_pairs : (es : List Event) → Unrecorded es → AllPairs InOrder es
un_pairs [] none = λ i j d lt within. absurd (omega arith)
un_pairs (e ∷ es) none =
    let rest = All-tail (λ (e : Event). is_record e ≡ false) e es none in
    AllPairs-cons InOrder e es (λ k d h sends. rest k d h) (un_pairs es rest)

-- if nothing is sent first
unsent_pairs : (one other : List Event) → Unsent one → AllPairs InOrder other → AllPairs InOrder (one ++ other)
unsent_pairs [] other none pairs = pairs
unsent_pairs (e ∷ one) other none pairs =
    let not_sent = All-head (λ (e : Event). is_send e ≡ false) e one none in
    AllPairs-cons InOrder e (one ++ other) (λ k d h sends. absurd (true≢false (sym sends ∙ not_sent))) (unsent_pairs one other (All-tail (λ (e : Event). is_send e ≡ false) e one none) pairs)

us_nil : Unsent []
us_nil = All-nil (λ (e : Event). is_send e ≡ false)

us_one : (e : Event) → is_send e ≡ false → Unsent (e ∷ [])
us_one e is = All-cons (λ (e : Event). is_send e ≡ false) e [] is us_nil

us_dropped : (why : Option Why) → Unsent (dropped_events why)
us_dropped None = us_nil
us_dropped (Some why) = us_one (Dropped why) refl

us_first : (line : Call) (h : Judged) → Unsent (first_events line h)
us_first (CameFrom now o v) h = us_dropped (verdict_on now o v h).why
us_first (Passed now news) h = (news_aside news).unsent
us_first (UserDrew now page op) h = us_nil
us_first (Held line) h = us_nil

us_each : (lines : List RecordLine) → Unsent (map Record lines)
us_each [] = us_nil
us_each (line ∷ lines) = All-cons (λ (e : Event). is_send e ≡ false) (Record line) (map Record lines) refl (us_each lines)

us_records : (now : ℕ) (lines : List RecordLine) → Unsent (record_events now lines)
us_records now [] = us_nil
us_records now (line ∷ lines) = All-cons (λ (e : Event). is_send e ≡ false) (Record (Tick now)) (map Record (line ∷ lines)) refl (us_each (line ∷ lines))

pub records_come_first : RecordsComeFirst
records_come_first line h =
    let ds = gained (handed line h) h.kept in
    let records = records_of line h in
    let drew = map drew_event ds in
    let sends = sends_of line h in
    let last = last_events line h in
    let after = un_both drew (sends ++ last) (un_drew ds) (un_both sends last (un_sends line h) (un_last line h)) in
    let all = unsent_pairs (first_events line h) (records ++ (drew ++ (sends ++ last))) (us_first line h)
    (unsent_pairs records (drew ++ (sends ++ last)) (us_records (moment_of line h) (lines_of line h)) (un_pairs (drew ++ (sends ++ last)) after)) in
    let same = append_assoc (records ++ drew) sends last ∙ append_assoc records drew (sends ++ last) in
    subst (λ (es : List Event). AllPairs InOrder (first_events line h ++ es)) (sym same) all
