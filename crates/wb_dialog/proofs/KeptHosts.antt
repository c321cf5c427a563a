-- The lines of a policy are lines that a driver may hand in: it says only what is its own, and time goes on first.
use Rattle.std.proofs.Common.{◌≡◌, ◌≤◌, ◌∙◌, ℕ, Bool, true, false, cond, List, [], ◌∷◌, ◌++◌, None, Some, ap, append-nil, arith, map, refl, subst, sym, length}
use Rattle.std.specs.Prelude.{nat_eq, nat_le, take}
use Rattle.std.proofs.lemmas.Bool.Decides.{nat_tests}
use Rattle.wb_names.specs.Arrivals.{Outcome, New, Again, Clash, Left}
use Rattle.wb_names.specs.Values.{DrawopValue, NameValue}
use Rattle.wb_names.specs.declared.name.PageId.{PageId}
use Rattle.wb_codec.specs.declared.datagram.Datagram.{Datagram}
use Rattle.wb_codec.specs.declared.datagram.Datagram.TheVariants as datagrams
use Rattle.wb_gaps.specs.Answers.{pages_of, report_of}
use Rattle.wb_recovery.specs.declared.limits.TheConstants.{UNKNOWN_DELAY}
use Rattle.wb_member.specs.Opened.{Opened, becomes, has_room_for, present}
use Rattle.wb_member.specs.declared.calls.Call.TheVariants as calls
use Rattle.wb_member.proofs.KeptBoards.{calls_keep_boards}
use Rattle.wb_policy.specs.Delays.{bounded}
use Rattle.wb_policy.specs.Policy.{Policy, after_wanting}
use Rattle.wb_policy.specs.Reports.{slice_after}
use Rattle.wb_policy.specs.Wanting.{is_wanted}
use Rattle.wb_keeping.specs.Calls.{Added, Came, KeptLine, Ticked, Tuned, doing_of, fault_of}
use Rattle.wb_keeping.specs.Kept.{Doing, Line, Arrives, Says, drawing, ends_full, hears, state_of, still, timed, want, Calls, drew, report_echoes}
use Rattle.wb_keeping.specs.Performing.{Keeping, after_doing, after_line, after_lines, after_saying, said, said_where, sees, sent_by_line, view_of}
use Rattle.wb_keeping.specs.Views.{View, holds, is_full, is_known, level}
use Rattle.wb_keeping.proofs.EachLine.{DoesEach, Each, OfPolicy, ends_each, hears_each, then_each, timed_each, wanted_each}
use Rattle.wb_keeping.proofs.EachStep.{HoldsOfSteps, line_holds, with_policy}
use Rattle.wb_keeping.proofs.KeptDelays.{all_both}
use Rattle.wb_keeping.proofs.Performed.{after_both}
use Rattle.wb_keeping.proofs.SpacedLines.{AreAll}
use Rattle.wb_keeping.proofs.Wanted.{lines_wanted}
use Rattle.wb_commands.specs.SentLines.{send_line, sends_text}
use Rattle.wb_dialog.specs.Dialog.{after, answer_at, goes_out, said_text, speaker}
use Rattle.wb_dialog.specs.Doing.{text_of}
use Rattle.wb_dialog.specs.Hosting.{unsent_text}
use Rattle.wb_dialog.specs.KeptLaws.{IsDrivenBy, KeptIsDriven, driver_line, told_by, told_said}

-- ---- one line at a host

-- what a line does, and what is printed for it
abbrev Drives : Line → Opened → Type 0
Drives line host = let a = answer_at (driver_line line) host in (after (Some host) a ≡ Some (after_line line host)) × (text_of a ≡ sends_text (sent_by_line line host) ++ told_by line host)

tick_drives : (now : ℕ) (host : Opened) → present host ≤ now → Drives (Calls (calls.Tick now)) host
tick_drives now host later = let on : nat_le (present host) now ≡ true = grind (arith, nat_tests) in rw on (refl, refl)

hears_drives : (v : Datagram) (host : Opened) → Drives (Calls (calls.Hear v)) host
hears_drives v host = at (has_room_for v host) refl where
  at : (b : Bool) → has_room_for v host ≡ b → Drives (Calls (calls.Hear v)) host
  at true room = rw room (refl, refl)
  at false room = rw room (refl, refl)

one_send : (v : Datagram) → send_line v ≡ sends_text (v ∷ []) ++ []
one_send v = sym (append-nil (sends_text (v ∷ [])) ∙ append-nil (send_line v))

said_drives : (d : DrawopValue) (o : Outcome) → said_text d o ≡ sends_text (said_where d o) ++ unsent_text o
said_drives d (New place) = one_send (datagrams.Draw d)
said_drives d (Again place) = one_send (datagrams.Draw d)
said_drives d (Clash place) = refl
said_drives d Left = refl

-- what it says goes out
abbrev GoesOut : Datagram → Opened → Type 0
GoesOut v host = let a = goes_out v host in (after (Some host) a ≡ Some (after_saying v host)) × (text_of a ≡ sends_text (said v host) ++ told_said v host)

goes_drives : (v : Datagram) (host : Opened) → GoesOut v host
goes_drives (datagrams.Draw d) host = (refl, said_drives d (becomes d host))
goes_drives (datagrams.Session sender sent page marks echoes) host = (refl, one_send (datagrams.Session sender sent page marks echoes))
goes_drives (datagrams.Request asker name) host = (refl, one_send (datagrams.Request asker name))
goes_drives (datagrams.AskPages asker) host = (refl, one_send (datagrams.AskPages asker))
goes_drives (datagrams.PageState sender page marks) host = (refl, one_send (datagrams.PageState sender page marks))

says_drives : (v : Datagram) (host : Opened) → speaker v ≡ host.is.number → Drives (Says v) host
says_drives v host own =
    let same : nat_eq (speaker v) host.is.number ≡ true = grind (arith, nat_tests) in
    rw same (goes_drives v host)

-- ---- lines

-- what a host of this number draws is its own
abbrev IsOwn : ℕ → Line → Type 0
IsOwn n (Says (datagrams.Draw d)) = d.name.source ≡ n
IsOwn n line = Unit {0}

abbrev MayDrive : Line → Opened → Type 0
MayDrive line host = IsOwn host.is.number line → Drives line host

number_stays : (line : Line) (host : Opened) → (after_line line host).is.number ≡ host.is.number
number_stays (Calls call) host = (calls_keep_boards call host).number
number_stays (Says (datagrams.Draw d)) host = refl
number_stays line host = refl

are_driven : (n : ℕ) (lines : List Line) (host : Opened) → host.is.number ≡ n → AreAll MayDrive lines host → Each (IsOwn n) lines → IsDrivenBy lines host
are_driven n [] host same drive own = tt
are_driven n (line ∷ lines) host same drive own =
    let d = drive.0 (subst (λ (m : ℕ). IsOwn m line) (sym same) own.0) in
    (d.0, d.1, are_driven n lines (after_line line host) (number_stays line host ∙ same) drive.1 own.1)

each_drives : (lines : List Line) (host : Opened) → Each (λ line. (host : Opened) → MayDrive line host) lines → AreAll MayDrive lines host
each_drives [] host each = tt
each_drives (line ∷ lines) host each = (each.0 host, each_drives lines (after_line line host) each.1)

states_drive : (v : View) (pages : List PageId) (host : Opened) → v.me ≡ host.is.number → AreAll MayDrive (map (λ page. Says (state_of v page)) pages) host
states_drive v [] host same = tt
states_drive v (page ∷ pages) host same = (λ own. says_drives (state_of v page) host same, states_drive v pages host same)

-- ---- each step of a policy

record MayGo (k : Keeping) (lines : List Line) (m : Keeping) : Type 0 where
  at : m.host ≡ after_lines lines k.host
  drive : AreAll MayDrive lines k.host

rests : (k : Keeping) (p : Policy) → MayGo k [] (with_policy p k)
rests k p = record { at = refl; drive = tt }

one_line : (line : Line) (k : Keeping) (p : Policy) → MayDrive line k.host → MayGo k (line ∷ []) (record { host = after_line line k.host; policy = p })
one_line line k p drives = record { at = refl; drive = (drives, tt) }

wants_go : (name : NameValue) (anew : Bool) (k : Keeping) → MayGo k (want name anew (sees k.host) k.policy).lines (after_doing (want name anew) k)
wants_go name anew k = by (is_wanted (holds v name) (is_full v) anew (is_known v name.source) (level v name) (length v.asked) k.policy.owed v.now) where
  v : View
  v = view_of k.host

  wanted : List Line
  wanted = lines_wanted name anew (sees k.host) k.policy

  by : (b : Bool) → let d : Doing = cond b (record { policy = after_wanting v.now k.policy; lines = wanted }) (still (sees k.host) k.policy) in MayGo k d.lines (record { host = after_lines d.lines k.host; policy = d.policy })
  by true = record {
    at = refl;
    drive = each_drives wanted k.host (wanted_each (λ line. (host : Opened) → MayDrive line host) (λ name host own. (refl, refl)) name (λ host own. (refl, refl)) anew (sees k.host) k.policy (λ host own. (refl, refl)) (λ host own. (refl, refl)));
  }
  by false = rests k k.policy

steps_go : HoldsOfSteps MayGo
steps_go = record {
  due = record {
    nothing = λ k. rests k k.policy;
    both = λ k m n one other a b. record {
      at = b.at ∙ ap (after_lines other) a.at ∙ sym (after_both one other k.host);
      drive = all_both MayDrive one other k.host a.drive (subst (AreAll MayDrive other) a.at b.drive);
    };
    wants = wants_go;
    turned = λ t l k. rests k _;
    beats = λ k due. rests k _;
    answers = λ k is. record { at = refl; drive = states_drive (view_of k.host) (take 64 (pages_of k.host.is.held)) k.host refl };
    asks_pages = λ k is. one_line _ k _ (λ own. says_drives (datagrams.AskPages k.host.is.number) k.host refl);
    reports = λ page then told k is. record { at = refl; drive = (λ own. says_drives (datagrams.Session k.host.is.number (present k.host) page (slice_after told (report_of k.host.is.held page)) (report_echoes (view_of k.host) k.policy)) k.host refl, tt) };
  };
  ticks = λ now k later. one_line (Calls (calls.Tick now)) k k.policy (λ own. tick_drives now k.host later);
  arrives = λ d k free. one_line (Arrives d) k k.policy (λ own. (refl, refl));
  answered = λ d k lacks asked. one_line (Arrives d) k _ (λ own. (refl, refl));
  hears = λ v k. one_line (Calls (calls.Hear v)) k k.policy (λ own. hears_drives v k.host);
  stops = λ name k full. one_line (Calls (calls.Stop name)) k k.policy (λ own. (refl, refl));
  sets = λ source micros k. one_line (Calls (calls.SetDelay source (bounded micros))) k k.policy (λ own. (refl, refl));
  lends = λ source k. one_line (Calls (calls.SetDelay source k.policy.usual)) k k.policy (λ own. (refl, refl));
  takes_back = λ source k. one_line (Calls (calls.SetDelay source UNKNOWN_DELAY)) k k.policy (λ own. (refl, refl));
  tunes = λ constants k within. one_line (Calls (calls.Tune constants)) k k.policy (λ own. (refl, refl));
  draws = λ d k unasked. one_line (Says (datagrams.Draw d)) k k.policy (λ own. says_drives (datagrams.Draw d) k.host own);
  drawn = λ d k asked. one_line (Says (datagrams.Draw d)) k _ (λ own. says_drives (datagrams.Draw d) k.host own);
  measured = λ micros k. rests k _;
  told = λ k. rests k _;
  takes_up = λ k is. rests k _;
}

-- ---- the lines of a call

-- a policy has its host draw nothing
policy_owns : (n : ℕ) → OfPolicy (IsOwn n)
policy_owns n = record {
  asks = λ name. tt;
  stops = λ name. tt;
  sets = λ source micros. tt;
  states = λ v page. tt;
  asks_pages = λ asker. tt;
  reports = λ sender sent page marks echoes. tt;
}

timed_owns : (n : ℕ) → DoesEach (IsOwn n) timed
timed_owns n = timed_each (IsOwn n) (policy_owns n)

lines_own : (line : KeptLine) (k : Keeping) → Each (IsOwn k.host.is.number) (doing_of line (sees k.host) k.policy).lines
lines_own (Came now v) k =
    let n : ℕ = k.host.is.number in
    (tt, then_each (IsOwn n) (hears v) timed (hears_each (IsOwn n) (policy_owns n) (λ v. tt) v (λ d e. tt)) (timed_owns n) (λ lines. sees k.host (Calls (calls.Tick now) ∷ lines)) k.policy)
lines_own (Ticked now) k = (tt, timed_owns k.host.is.number (λ lines. sees k.host (Calls (calls.Tick now) ∷ lines)) k.policy)
lines_own (Added now page time op) k =
    let n : ℕ = k.host.is.number in
    let d : DrawopValue = drawing (sees k.host (Calls (calls.Tick now) ∷ [])) page time op in
    (tt, (refl, then_each (IsOwn n) ends_full timed (ends_each (IsOwn n) (policy_owns n)) (timed_owns n) (λ lines. sees k.host (Calls (calls.Tick now) ∷ Says (datagrams.Draw d) ∷ lines)) (drew d (sees k.host (Calls (calls.Tick now) ∷ [])) k.policy)))
lines_own (Tuned constants) k = (tt, tt)

goes : (line : KeptLine) (k : Keeping) → fault_of line k ≡ None → IsDrivenBy (doing_of line (sees k.host) k.policy).lines k.host
goes line k none = are_driven k.host.is.number (doing_of line (sees k.host) k.policy).lines k.host refl (line_holds MayGo steps_go line k none).drive (lines_own line k)

pub kept_is_driven : KeptIsDriven
kept_is_driven = record {
  ticked = λ k now none. goes (Ticked now) k none;
  took = λ k now v none. goes (Came now v) k none;
  tuned = λ k constants. (refl, refl, tt);
  drew = λ k now page time op none. goes (Added now page time op) k none;
}
