-- Calls of which some tell a keeper the same names in another order, more than once, or one after another: what is read off them is
-- the same.
use Rattle.std.proofs.Common.{◌≡◌, ℕ, Bool, true, false, cond, List, [], ◌∷◌, ◌++◌, Option, None, refl, ap, ap₂, ◌∙◌, sym, subst, unwrap_or}
use Rattle.std.specs.BTreeSet.{insert_key}
use Rattle.std.specs.List.{cons_option, filter_map, list_any}
use Rattle.std.specs.Option.{option_map, option_or}
use Rattle.std.specs.Prelude.{◌-◌, nat_eq}
use Rattle.std.proofs.Math.Path.{fun_ext}
use Rattle.wb_names.specs.Values.{NameValue, MarkValue}
use Rattle.wb_names.specs.Orders.{same_name, name_cmp}
use Rattle.wb_names.specs.declared.name.PageId.{PageId}
use Rattle.wb_names.specs.declared.echo.Echo.{Echo}
use Rattle.wb_codec.specs.declared.datagram.Datagram.{Datagram}
use Rattle.wb_codec.specs.declared.datagram.Datagram.TheVariants.{Request}
use Rattle.wb_gaps.specs.Joining.{joined}
use Rattle.wb_gaps.specs.Sorting.{sorted}
use Rattle.wb_recovery.specs.Events.{Event, Notice, Asked, Got, Tick, Tune, constants_after, names_of, timers_of, due_asks, word_for}
use Rattle.wb_recovery.specs.Noticing.{notices}
use Rattle.wb_recovery.specs.Stopping.{receipts}
use Rattle.wb_recovery.specs.Timing.{noticed, asked, got, ticked}
use Rattle.wb_recovery.specs.declared.missed.Missed.{Missed}
use Rattle.wb_recovery.specs.declared.missed.Received.{Received}
use Rattle.wb_recovery.specs.declared.timers.Timers.{Timers}
use Rattle.wb_recovery.specs.declared.tuning.Tuning.{Tuning}
use Rattle.wb_recovery.proofs.StoppedNames.{constants_receipts}
use Rattle.wb_keeper.specs.Hearing.{marks_heard, marks_reported}
use Rattle.wb_keeper.specs.Keeper.{KeeperCall, SetDelay, SetConstants, Hear, Arrive, Miss, GoOn, Report, GiveUp, newest, now_of, moment_at, delay_given, delay_to, session_heard, remember, senders_of, heard_by, last_heard, missed_of, received_of, timer_calls, events_of}
use Rattle.wb_keeper.specs.Known.{page_named, pages_heard}
use Rattle.wb_keeper.specs.Sessions.{echo_cmp, echo_to, echoes_of}
use Rattle.wb_keeper.specs.declared.keeper.Heard.{Heard}
use Rattle.wb_keeper.proofs.FreeArrivals.{timers_alike}
use Rattle.wb_recovery.specs.declared.limits.TheConstants.{UNKNOWN_DELAY}
use Rattle.wb_script.proofs.Members.{Among}
use Rattle.wb_script.proofs.Telling.{comes_alike}

-- ---- the timers

-- the same names have timers, by the same constants, and each has the same
pub record EventsAlike (one other : List Event) : Type 0 where
  pub names : names_of one ≡ names_of other
  pub constants : (t : Tuning) → constants_after t one ≡ constants_after t other
  pub timers : (t : Tuning) → timers_of t one ≡ timers_of t other

events_same : (events : List Event) → EventsAlike events events
events_same events = record { names = refl; constants = λ t. refl; timers = λ t. refl }

events_then : (a b c : List Event) → EventsAlike a b → EventsAlike b c → EventsAlike a c
events_then a b c x y = record { names = x.names ∙ y.names; constants = λ t. x.constants t ∙ y.constants t; timers = λ t. x.timers t ∙ y.timers t }

alike_after : (event : Event) (one other : List Event) → EventsAlike one other → EventsAlike (event ∷ one) (event ∷ other)
alike_after (Notice name now delay word) one other a = record {
  names = ap (λ (names : List NameValue). insert_key name_cmp names name) a.names;
  constants = a.constants;
  timers = λ t. ap₂ {C = NameValue → Timers} (λ (k : Tuning) (timers : NameValue → Timers). λ (n : NameValue). cond (same_name name n) (noticed k now delay word (timers n)) (timers n)) (a.constants t) (a.timers t);
}
alike_after (Asked name held now delay word) one other a = record {
  names = at held;
  constants = a.constants;
  timers = λ t. ap₂ {C = NameValue → Timers} (λ (k : Tuning) (timers : NameValue → Timers). λ (n : NameValue). cond (same_name name n) (asked k held now delay word (timers n)) (timers n)) (a.constants t) (a.timers t);
} where
  at : (held : Bool) → names_of (Asked name held now delay word ∷ one) ≡ names_of (Asked name held now delay word ∷ other)
  at true = ap (λ (names : List NameValue). insert_key name_cmp names name) a.names
  at false = a.names
alike_after (Got name now delay) one other a = record {
  names = a.names;
  constants = a.constants;
  timers = λ t. ap {B = NameValue → Timers} (λ (timers : NameValue → Timers). λ (n : NameValue). cond (same_name name n) (got now delay (timers n)) (timers n)) (a.timers t);
}
alike_after (Tick now words) one other a = record {
  names = a.names;
  constants = a.constants;
  timers = λ t.
      ap {B = NameValue → Timers} (λ (k : Tuning). λ (n : NameValue). ticked k now (word_for words (due_asks (names_of one) (λ m. timers_of t one m) now) n) (timers_of t one n)) (a.constants t)
      ∙ ap₂ {C = NameValue → Timers} (λ (names : List NameValue) (timers : NameValue → Timers). λ (n : NameValue). ticked (constants_after t other) now (word_for words (due_asks names (λ m. timers m) now) n) (timers n)) a.names (a.timers t);
}
alike_after (Tune constants) one other a = record { names = a.names; constants = λ t. refl; timers = a.timers }

pub receipts_alike : (now : ℕ) (received : List Received) (one other : List Event) → EventsAlike one other → EventsAlike (receipts now one received) (receipts now other received)
receipts_alike now [] one other a = a
receipts_alike now (c ∷ received) one other a = receipts_alike now received (Got c.name now c.delay ∷ one) (Got c.name now c.delay ∷ other) (alike_after (Got c.name now c.delay) one other a)

notices_alike : (now : ℕ) (missed : List Missed) (one other : List Event) → EventsAlike one other → EventsAlike (notices now one missed) (notices now other missed)
notices_alike now [] one other a = a
notices_alike now (m ∷ missed) one other a = notices_alike now missed (Notice m.name now m.delay m.word ∷ one) (Notice m.name now m.delay m.word ∷ other) (alike_after (Notice m.name now m.delay m.word) one other a)

names_receipts : (now : ℕ) (received : List Received) (events : List Event) → names_of (receipts now events received) ≡ names_of events
names_receipts now [] events = refl
names_receipts now (c ∷ received) events = names_receipts now received (Got c.name now c.delay ∷ events)

-- names that come in another order, or more than once
arrivals_alike : (delays : ℕ → ℕ) (now : ℕ) (names others : List NameValue) (events : List Event) → Among names others → Among others names
    → EventsAlike (receipts now events (received_of delays names)) (receipts now events (received_of delays others))
arrivals_alike delays now names others events up down = record {
  names = names_receipts now (received_of delays names) events ∙ sym (names_receipts now (received_of delays others) events);
  constants = λ t. constants_receipts t now events (received_of delays names) ∙ sym (constants_receipts t now events (received_of delays others));
  timers = λ t. fun_ext (λ n. timers_alike t delays now events names others (comes_alike names others up down) n);
}

-- one call behind calls that are alike
call_after : (me : ℕ) (delays : ℕ → ℕ) (call : KeeperCall) (one other : List Event) → EventsAlike one other → EventsAlike (timer_calls me delays call one) (timer_calls me delays call other)
call_after me delays (SetDelay source micros) one other a = a
call_after me delays (SetConstants constants) one other a = alike_after (Tune constants) one other a
call_after me delays (Hear now (Request asker name) word held) one other a = at (nat_eq asker me) where
  at : (own : Bool) → (let e : Event = Asked name held now (delays (cond held asker name.source)) word in EventsAlike (cond own one (e ∷ one)) (cond own other (e ∷ other)))
  at true = a
  at false = alike_after (Asked name held now (delays (cond held asker name.source)) word) one other a
call_after me delays (Hear now v word held) one other a = a
call_after me delays (Arrive now names) one other a = receipts_alike now (received_of delays names) one other a
call_after me delays (Miss now names words) one other a = notices_alike now (missed_of delays names words) one other a
call_after me delays (GoOn now words stopped) one other a =
    alike_after (Tick now words) (receipts now one (received_of delays stopped)) (receipts now other (received_of delays stopped)) (receipts_alike now (received_of delays stopped) one other a)
call_after me delays (Report now) one other a = a
call_after me delays (GiveUp now name true) one other a = receipts_alike now (received_of (λ source. 0) (name ∷ [])) one other a
call_after me delays (GiveUp now name false) one other a = a

-- and names that come one after another
apart_alike : (delays : ℕ → ℕ) (now : ℕ) (some more : List NameValue) (events : List Event)
    → EventsAlike (receipts now (receipts now events (received_of delays some)) (received_of delays more)) (receipts now events (received_of delays (some ++ more)))
apart_alike delays now [] more events = events_same (receipts now events (received_of delays more))
apart_alike delays now (n ∷ some) more events = apart_alike delays now some more (Got n now (delays n.source) ∷ events)

-- ---- the calls

-- What is read off the one is what is read off the other.
pub record CallsAlike (calls others : List KeeperCall) : Type 0 where
  pub moment : newest now_of calls ≡ newest now_of others
  pub delays : (me source : ℕ) → newest (delay_given me source) calls ≡ newest (delay_given me source) others
  pub marks : (me : ℕ) (page : PageId) → marks_heard me calls page ≡ marks_heard me others page
  pub pages : (me : ℕ) → pages_heard me calls ≡ pages_heard me others
  pub senders : (me : ℕ) → senders_of me calls ≡ senders_of me others
  pub heard : (me source : ℕ) → newest (λ call. heard_by source (session_heard me call)) calls ≡ newest (λ call. heard_by source (session_heard me call)) others
  pub events : (me : ℕ) → EventsAlike (events_of me calls) (events_of me others)

pub moment_alike : (calls others : List KeeperCall) → CallsAlike calls others → moment_at calls ≡ moment_at others
moment_alike calls others a = ap (λ (o : Option ℕ). unwrap_or o 0) a.moment

pub delays_alike : (me : ℕ) (calls others : List KeeperCall) → CallsAlike calls others → delay_to me calls ≡ delay_to me others
delays_alike me calls others a = fun_ext (λ source. ap (λ (o : Option ℕ). unwrap_or o UNKNOWN_DELAY) (a.delays me source))

pub marks_alike : (me : ℕ) (calls others : List KeeperCall) → CallsAlike calls others → marks_heard me calls ≡ marks_heard me others
marks_alike me calls others a = fun_ext (a.marks me)

last_alike : (me : ℕ) (calls others : List KeeperCall) → CallsAlike calls others → last_heard me calls ≡ last_heard me others
last_alike me calls others a = fun_ext (λ source. ap₂ (λ (senders : List ℕ) (h : Option Heard). cond (list_any (nat_eq source) senders) h None) (a.senders me) (a.heard me source))

pub echoes_alike : (me : ℕ) (calls others : List KeeperCall) (now : ℕ) → CallsAlike calls others → echoes_of me calls now ≡ echoes_of me others now
echoes_alike me calls others now a =
    ap₂ (λ (last : ℕ → Option Heard) (senders : List ℕ). sorted echo_cmp (filter_map (λ source. option_map (λ (h : Heard). let e : Echo = record { source = source; sent = h.sent; held = now - h.at } in e) (last source)) senders))
    (last_alike me calls others a) (a.senders me)

-- ---- which calls are alike

pub calls_same : (calls : List KeeperCall) → CallsAlike calls calls
calls_same calls = record { moment = refl; delays = λ me source. refl; marks = λ me page. refl; pages = λ me. refl; senders = λ me. refl; heard = λ me source. refl; events = λ me. events_same (events_of me calls) }

pub calls_back : (calls others : List KeeperCall) → CallsAlike calls others → CallsAlike others calls
calls_back calls others a = record {
  moment = sym a.moment;
  delays = λ me source. sym (a.delays me source);
  marks = λ me page. sym (a.marks me page);
  pages = λ me. sym (a.pages me);
  senders = λ me. sym (a.senders me);
  heard = λ me source. sym (a.heard me source);
  events = λ me. let e = a.events me in record { names = sym e.names; constants = λ t. sym (e.constants t); timers = λ t. sym (e.timers t) };
}

pub calls_then : (a b c : List KeeperCall) → CallsAlike a b → CallsAlike b c → CallsAlike a c
calls_then a b c x y = record {
  moment = x.moment ∙ y.moment;
  delays = λ me source. x.delays me source ∙ y.delays me source;
  marks = λ me page. x.marks me page ∙ y.marks me page;
  pages = λ me. x.pages me ∙ y.pages me;
  senders = λ me. x.senders me ∙ y.senders me;
  heard = λ me source. x.heard me source ∙ y.heard me source;
  events = λ me. events_then (events_of me a) (events_of me b) (events_of me c) (x.events me) (y.events me);
}

-- one call behind them
pub calls_after : (call : KeeperCall) (calls others : List KeeperCall) → CallsAlike calls others → CallsAlike (call ∷ calls) (call ∷ others)
calls_after call calls others a = record {
  moment = ap (option_or (now_of call)) a.moment;
  delays = λ me source. ap (option_or (delay_given me source call)) (a.delays me source);
  marks = λ me page. ap (joined (marks_reported me page call)) (a.marks me page);
  pages = λ me. ap (cons_option (page_named me call)) (a.pages me);
  senders = λ me. ap (remember (session_heard me call)) (a.senders me);
  heard = λ me source. ap (option_or (heard_by source (session_heard me call))) (a.heard me source);
  events = λ me.
      subst (λ (delays : ℕ → ℕ). EventsAlike (timer_calls me (delay_to me calls) call (events_of me calls)) (timer_calls me delays call (events_of me others))) (delays_alike me calls others a)
      (call_after me (delay_to me calls) call (events_of me calls) (events_of me others) (a.events me));
}

-- that tells the same names
pub arrived_alike : (now : ℕ) (names others : List NameValue) (calls : List KeeperCall) → Among names others → Among others names → CallsAlike (Arrive now names ∷ calls) (Arrive now others ∷ calls)
arrived_alike now names others calls up down = record {
  moment = refl;
  delays = λ me source. refl;
  marks = λ me page. refl;
  pages = λ me. refl;
  senders = λ me. refl;
  heard = λ me source. refl;
  events = λ me. arrivals_alike (delay_to me calls) now names others (events_of me calls) up down;
}

-- Names that arrive in two calls do what they do in one.
pub arrived_apart : (now : ℕ) (some more : List NameValue) (calls : List KeeperCall) → CallsAlike (Arrive now more ∷ Arrive now some ∷ calls) (Arrive now (some ++ more) ∷ calls)
arrived_apart now some more calls = record {
  moment = refl;
  delays = λ me source. refl;
  marks = λ me page. refl;
  pages = λ me. refl;
  senders = λ me. refl;
  heard = λ me source. refl;
  events = λ me. apart_alike (delay_to me calls) now some more (events_of me calls);
}
