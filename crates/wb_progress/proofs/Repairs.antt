-- How a keeper comes to ask for a name, and how one that holds it comes to answer.
use Rattle.std.proofs.Common.{◌≡◌, ℕ, ◌+◌, ◌*◌, ◌^◌, ◌<◌, ◌≤◌, true, List, [], ◌∷◌, Option, Some, None, refl, ap, ◌∙◌, sym, subst, arith, true≢false}
use Rattle.std.specs.Prelude.{IfSome, is_some, Contains}
use Rattle.std.proofs.Math.Nat.{pow-le-pow_right, mul-le-mul, le_refl}
use Rattle.wb_names.specs.Values.{DrawopValue}
use Rattle.wb_names.specs.History.{IsHistory}
use Rattle.wb_names.proofs.Orders.{and_both}
use Rattle.wb_codec.specs.declared.datagram.Datagram.TheVariants.{Draw, Request}
use Rattle.wb_recovery.specs.Timing.{is_constant, are_constants, is_ask_due, is_answer_due, new_ask, new_answer}
use Rattle.wb_recovery.specs.declared.tuning.Tuning.{Tuning}
use Rattle.wb_recovery.specs.declared.timers.AskTimer.{AskTimer}
use Rattle.wb_recovery.specs.declared.timers.AnswerTimer.{AnswerTimer}
use Rattle.wb_recovery.specs.declared.timers.Timers.{Timers}
use Rattle.wb_keeper.specs.Keeper.{KeeperCall, Hear, Miss, moment_at, delay_to, holds}
use Rattle.wb_keeper.specs.Ticks.{sent_by_tick}
use Rattle.wb_keeper.proofs.KeptCalls.{holds_from}
use Rattle.wb_progress.specs.Bounds.{IsAskNear, IsAnswerNear}
use Rattle.wb_progress.specs.Keepers.{farthest, greatest_constants, constants_at, AreOrderly}
use Rattle.wb_progress.specs.Repairs.{timers_at, gone_on, gave_up, IsIdle, first_wait, asking_wait, answering_wait, quiet_wait, AskerAsks, AskedAnewIsSoon, AnswersAreSoon, HolderAnswers}
use Rattle.wb_progress.proofs.TimerBounds.{expiry_within}
use Rattle.wb_progress.proofs.KeeperBounds.{delays_fit, in_range, keepers_are_bounded, most}
use Rattle.wb_progress.proofs.OneCall.{ticks_ask, ticks_answer, ticks_clear, ticks_leave, requests_set, given_up_is_idle, sets_anew}
use Rattle.std.proofs.lemmas.Bool.{le-leb}

record AreSmall (t : Tuning) : Type 0 where
  c1 : t.c1 ≤ 16
  c2 : t.c2 ≤ 16
  d1 : t.d1 ≤ 16
  d2 : t.d2 ≤ 16

small : (t : Tuning) → are_constants t ≡ true → AreSmall t
small t e =
    let a = and_both _ (is_constant t.d2) e in
    let b = and_both _ (is_constant t.d1) a.0 in
    let c = and_both (is_constant t.c1) (is_constant t.c2) b.0 in
    record { c1 = most t.c1 c.0; c2 = most t.c2 c.1; d1 = most t.d1 b.1; d2 = most t.d2 a.1 }

pub asking_bound : (level c delay : ℕ) → level ≤ 16 → c ≤ 32 → delay ≤ farthest → 2 ^ level * c * delay ≤ 2 ^ 45
asking_bound level c delay l x d =
    let two : 0 < 2 = omega arith in
    let p : 2 ^ level ≤ 2 ^ 16 = pow-le-pow_right two l in
    let q : 2 ^ level * c ≤ 2 ^ 16 * 32 = mul-le-mul p x in
    let r : delay ≤ 2 ^ 24 = omega arith in
    mul-le-mul q r

answering_bound : (c delay : ℕ) → c ≤ 32 → delay ≤ farthest → c * delay ≤ 2 ^ 29
answering_bound c delay x d =
    let r : delay ≤ 2 ^ 24 = omega arith in
    mul-le-mul x r

pub asker_asks : AskerAsks
asker_asks me t calls history n constants orderly h stands =
    ticks_ask me t calls history (moment_at calls + asking_wait) n (from (timers_at me t calls n).ask (keepers_are_bounded me t calls constants orderly n).ask stands) h where
      from : (o : Option AskTimer) → IfSome o (IsAskNear greatest_constants farthest (moment_at calls)) → is_some o ≡ true → is_ask_due (moment_at calls + asking_wait) o ≡ true
      from None near e = absurd (true≢false (sym e))
      from (Some a) near e =
          let b = asking_bound a.level 32 a.delay near.level (le_refl 32) near.delay in
          let due = near.due in
          le-leb a.due (moment_at calls + asking_wait) (omega (arith, b, due))

few : (t : Tuning) → are_constants t ≡ true → t.d1 + t.d2 ≤ 32
few t constants = let s = small t constants in let d1 = s.d1 in let d2 = s.d2 in omega arith

pub asked_anew_is_soon : AskedAnewIsSoon
asked_anew_is_soon me t calls history n word constants orderly lost none =
    let now = moment_at calls in
    let stopped = gave_up me t calls now n in
    let delay = delay_to me stopped n.source in
    let now_used = constants_at me t stopped in
    let s = small now_used (in_range me t stopped constants (le_refl now, tt, orderly)) in
    let c1 = s.c1 in
    let c2 = s.c2 in
    let sum : now_used.c1 + now_used.c2 ≤ 32 = omega arith in
    let timer = new_ask now_used now delay word in
    let set : (timers_at me t (Miss now (n ∷ []) (word ∷ []) ∷ stopped) n).ask ≡ Some timer = sets_anew me t stopped now word n (given_up_is_idle me t calls now n none).ask in
    let e = expiry_within now 0 now_used.c1 now_used.c2 delay word in
    let b = answering_bound (now_used.c1 + now_used.c2) delay sum (delays_fit me stopped (le_refl now, tt, orderly) n.source) in
    let due : timer.due ≤ now + first_wait = omega (arith, e, b) in
    ticks_ask me t (Miss now (n ∷ []) (word ∷ []) ∷ stopped) history (now + first_wait) n (ap (is_ask_due (now + first_wait)) set ∙ le-leb timer.due (now + first_wait) due) lost

pub answers_are_soon : AnswersAreSoon
answers_are_soon me t calls n constants orderly = from (timers_at me t calls n).answer (keepers_are_bounded me t calls constants orderly n).answers.answer where
  from : (o : Option AnswerTimer) → IfSome o (IsAnswerNear greatest_constants farthest (moment_at calls)) → IfSome o (λ answer. answer.due ≤ moment_at calls + answering_wait)
  from None near = tt
  from (Some a) near =
      let b = answering_bound 32 a.delay (le_refl 32) near.delay in
      let due = near.due in
      omega (arith, b, due)

module _ (me : ℕ) (t : Tuning) (calls : List KeeperCall) (history : List DrawopValue) (d : DrawopValue) (asker : ℕ) (words more : List ℕ) (word : ℕ) (constants : are_constants t ≡ true) (orderly : AreOrderly calls) (names : IsHistory history) (held : Contains history d) (other : asker ≡ me → ⊥) where
  abbrev first : ℕ
  first = moment_at calls + answering_wait

  abbrev second : ℕ
  second = first + quiet_wait

  abbrev third : ℕ
  third = second + answering_wait

  abbrev cleared : List KeeperCall
  cleared = gone_on me t calls history first words

  abbrev quiet : List KeeperCall
  quiet = gone_on me t cleared history second more

  abbrev heard : List KeeperCall
  heard = Hear second (Request asker d.name) word true ∷ quiet

  is_held : holds history d.name ≡ true
  is_held = holds_from history d.name d held refl

  cleared_orderly : AreOrderly cleared
  cleared_orderly = (omega arith, tt, orderly)

  quiet_orderly : AreOrderly quiet
  quiet_orderly = (omega arith, tt, cleared_orderly)

  idle_first : IsIdle (timers_at me t cleared d.name)
  idle_first = ticks_clear me t calls history first words d.name is_held (answers_are_soon me t calls d.name constants orderly)

  same : timers_at me t quiet d.name ≡ timers_at me t cleared d.name
  same = ticks_leave me t cleared history second more d.name idle_first

  idle : IsIdle (timers_at me t quiet d.name)
  idle = subst IsIdle (sym same) idle_first

  is_quiet : (timers_at me t quiet d.name).quiet ≤ second
  is_quiet =
      let le = (keepers_are_bounded me t cleared constants cleared_orderly d.name).answers.quiet in
      let e : (timers_at me t quiet d.name).quiet ≡ (timers_at me t cleared d.name).quiet = ap (λ (s : Timers). s.quiet) same in
      omega (arith, le, e)

  set : timers_at me t heard d.name ≡ record { ask = None; answer = Some (new_answer (constants_at me t quiet) second (delay_to me quiet asker) word); quiet = (timers_at me t quiet d.name).quiet }
  set = requests_set me t quiet second asker word d.name other idle is_quiet

  due : is_answer_due third (timers_at me t heard d.name).answer ≡ true
  due =
      let used = constants_at me t quiet in
      let e = expiry_within second 0 used.d1 used.d2 (delay_to me quiet asker) word in
      let b = answering_bound (used.d1 + used.d2) (delay_to me quiet asker) (few used (in_range me t quiet constants quiet_orderly)) (delays_fit me quiet quiet_orderly asker) in
      let le : (new_answer (constants_at me t quiet) second (delay_to me quiet asker) word).due ≤ third = omega (arith, e, b) in
      ap (λ (s : Timers). is_answer_due third s.answer) set ∙ le-leb (new_answer (constants_at me t quiet) second (delay_to me quiet asker) word).due third le

  pub answers : Contains (sent_by_tick me t heard history third) (Draw d)
  answers = ticks_answer me t heard history third d names held (ap (λ (s : Timers). s.ask) set) due

pub holder_answers : HolderAnswers
holder_answers me t calls history d asker words more word constants orderly names held other = answers me t calls history d asker words more word constants orderly names held other
