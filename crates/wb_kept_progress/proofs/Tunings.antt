-- The constants that a host has: those that it was last tuned to.
use Rattle.std.proofs.Common.{◌≡◌, ℕ, Bool, true, false, cond, List, [], ◌∷◌, filter, length, refl, subst, sym}
use Rattle.std.specs.Prelude.{nat_eq}
use Rattle.wb_names.specs.Values.{DrawopValue}
use Rattle.wb_codec.specs.declared.datagram.Datagram.{Datagram}
use Rattle.wb_codec.specs.declared.datagram.Datagram.TheVariants.{Draw, Session, Request, AskPages, PageState}
use Rattle.wb_recovery.specs.Events.{Asked, Event, constants_after}
use Rattle.wb_recovery.specs.Stopping.{receipts}
use Rattle.wb_recovery.specs.declared.missed.Received.{Received}
use Rattle.wb_recovery.specs.declared.tuning.Tuning.{Tuning}
use Rattle.wb_recovery.proofs.NoticedNames.{notices_constants}
use Rattle.wb_recovery.proofs.StoppedNames.{constants_receipts}
use Rattle.wb_keeper.specs.Hearing.{asks_for_held}
use Rattle.wb_keeper.specs.Keeper.{asked_by, delay_to, given_up, holds, missed_of, received_of}
use Rattle.wb_keeper.specs.Ticks.{stopped_after}
use Rattle.wb_member.specs.Members.{Misses}
use Rattle.wb_member.specs.Opened.{Opened, accepted, asks_for, doing, events, has_room_for, heard, may_ask, present, wanted_of, word_at}
use Rattle.wb_member.specs.Random.{word_of, words_of}
use Rattle.wb_member.specs.declared.calls.Call.TheVariants.{Tick, Hear, Tune, Look, Ask, Stop}
use Rattle.wb_keeping.specs.Kept.{Arrives, Line, Says, Calls}
use Rattle.wb_keeping.specs.Performing.{after_line}

abbrev pub constants_of : Opened → Tuning
constants_of host = constants_after host.is.constants (events host)

module _ (P : Tuning → Type 0) where
  receipts_tuned : (t : Tuning) (now : ℕ) (calls : List Event) (received : List Received) → P (constants_after t calls) → P (constants_after t (receipts now calls received))
  receipts_tuned t now calls received h = subst P (sym (constants_receipts t now calls received)) h

  asked_tuned : (t : Tuning) (me now : ℕ) (delays : ℕ → ℕ) (v : Datagram) (word : ℕ) (held : Bool) (calls : List Event) → P (constants_after t calls) → P (constants_after t (asked_by me delays now v word held calls))
  asked_tuned t me now delays (Request asker name) word held calls h = by (nat_eq asker me) where
    by : (b : Bool) → P (constants_after t (cond b calls (Asked name held now (delays (cond held asker name.source)) word ∷ calls)))
    by true = h
    by false = h
  asked_tuned t me now delays (Draw d) word held calls h = h
  asked_tuned t me now delays (Session sender sent page marks echoes) word held calls h = h
  asked_tuned t me now delays (AskPages asker) word held calls h = h
  asked_tuned t me now delays (PageState sender page marks) word held calls h = h

  arrival_tuned : (d : DrawopValue) (host : Opened) → P (constants_of host) → P (constants_of (accepted d host))
  arrival_tuned d host h = receipts_tuned host.is.constants (present host) (events host) (received_of (delay_to host.is.number host.is.calls) (filter (holds (accepted d host).is.held) (d.name ∷ []))) h

  -- what is so of the constants of a host, and of those that it is tuned to, is so once it performed a line
  pub line_tuned : (line : Line) (host : Opened) → ((constants : Tuning) → line ≡ Calls (Tune constants) → P constants) → P (constants_of host) → P (constants_of (after_line line host))
  line_tuned (Calls (Tick now)) host tunes h = receipts_tuned host.is.constants now (events host) (received_of (delay_to host.is.number host.is.calls) (stopped_after host.is.number host.is.constants host.is.calls host.is.held)) h
  line_tuned (Arrives d) host tunes h = arrival_tuned d host h
  line_tuned (Calls (Hear v)) host tunes h = by (has_room_for v host) where
    by : (b : Bool) → P (constants_of (cond b (heard v host) host))
    by true = asked_tuned host.is.constants host.is.number (present host) (delay_to host.is.number host.is.calls) v (word_at v host.random) (asks_for_held host.is.held v) (events host) h
    by false = h
  line_tuned (Calls (Look page)) host tunes h =
      let wanted = wanted_of page host in
      subst P (sym (notices_constants host.is.constants (present host) (events host) (missed_of (delay_to host.is.number host.is.calls) wanted (words_of host.random (length wanted))))) h
  line_tuned (Calls (Ask name)) host tunes h = by (may_ask name host) where
    by : (b : Bool) → P (constants_of (cond b (doing (Misses (present host) (name ∷ []) (word_of host.random ∷ [])) 1 host) host))
    by true = h
    by false = h
  line_tuned (Calls (Stop name)) host tunes h = by (asks_for name host) where
    by : (b : Bool) → P (constants_after host.is.constants (given_up (present host) name b (events host)))
    by true = receipts_tuned host.is.constants (present host) (events host) (received_of (λ source. 0) (name ∷ [])) h
    by false = h
  line_tuned (Calls (Tune constants)) host tunes h = tunes constants refl
  line_tuned (Says (Draw d)) host tunes h = arrival_tuned d host h
  line_tuned line host tunes h = h
