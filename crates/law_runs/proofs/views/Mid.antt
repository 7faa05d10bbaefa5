-- While a call of a process is under way, and once it is answered.
use Rattle.std.proofs.Common.{◌≡◌, ◌≢◌, ℕ, ◌+◌, false, Some, refl, ap, ◌∙◌}
use Rattle.user_calls.specs.declared.calls.Call.{Call}
use Rattle.user_calls.specs.declared.calls.Reply.{Reply}
use Rattle.fd_table.specs.Descriptors.{Descriptors}
use Rattle.proc_table.specs.Slots.{Process, at, is_zombie_status, parent_or_init}
use Rattle.proc_table.specs.Calls.{readied}
use Rattle.mem_files.specs.Files.{files}
use Rattle.kernel_model.specs.KernelState.{KernelState, fds_of, fds_at}
use Rattle.kernel_model.specs.Replies.{answered}
use Rattle.kernel_model.specs.Events.{counted}
use Rattle.law_kernel.specs.Ends.{AreApart}
use Rattle.sh_machine.specs.State.{User}
use Rattle.process_model.specs.Seen.{Fds, Act, act_of, fds_seen, live, seen, Names, view}
use Rattle.process_model.specs.Shows.{Shows, ShowsIn}
use Rattle.process_model.specs.Effect.{Sets, Rest, Answers, EffectBy, answered as answered_seen}
use Rattle.law_runs.proofs.views.Tables.{At, Others, seen_at, seen_up, seen_alike, others_refl, others_then, at_ready, ready_others}
use Rattle.law_runs.proofs.views.Showing.{shows_later}

module _ (g : Names) (k : KernelState User) (p : ℕ) (q : Process User) where
  -- what is seen of p before its call
  abbrev pub parent : ℕ
  parent = parent_or_init q.parent

  abbrev pub act : Act
  act = act_of q.machine q.reply

  abbrev pub fds : Fds
  fds = fds_seen g.name q.fds

  -- the number of the event after the call
  abbrev pub later : ℕ
  later = k.events + 1 + 1

  -- the state m, in the middle of the call: p has the descriptors d, and the names are right
  pub record Mid (m : KernelState User) (d : Descriptors) : Type 0 where
    pub own : At m.table p q.parent q.machine q.reply d q.put
    pub others : Others g.name k.table m.table p
    pub shows : Shows g m.entries m.pipes (files k.files) later
    pub apart : AreApart m.pipes
    pub files : m.files ≡ k.files
    pub input : m.input ≡ k.input
    pub out : m.out ≡ k.out

  -- the state l after the call, under other names
  pub record Called (l : KernelState User) (call : Call) : Type 0 where
    pub names : Names
    pub shows : Shows names l.entries l.pipes (Rattle.mem_files.specs.Files.files l.files) later
    pub effect : EffectBy (view g k) (view names l) p parent q.put act fds call

  module _ (up : p ≢ 0) (is : at k.table p ≡ Some q) (alive : is_zombie_status q.status ≡ false) (shows : ShowsIn g k) where
    pub own : At k.table p q.parent q.machine q.reply q.fds q.put
    own = record { status = q.status; alive = alive; is = is }

    pub slot : (view g k).slots p ≡ live parent act q.put fds
    slot = seen_up g.name k.table p up ∙ seen_at g.name k.table p q.parent q.machine q.reply q.fds q.put own

    pub fds_are : fds_at k p ≡ q.fds
    fds_are = ap fds_of is

    pub mid : AreApart k.pipes → Mid (counted k) q.fds
    mid apart = record {
      own = own;
      others = others_refl g.name k.table p;
      shows = shows_later g k.entries k.pipes (Rattle.mem_files.specs.Files.files k.files) (k.events + 1) shows;
      apart = apart;
      files = refl;
      input = refl;
      out = refl;
    }

    -- p's slot once it is as the table says
    pub sets : (h : Names) (l : KernelState User) (m : User) (r : Reply) (d : Descriptors) (put : ℕ) → h.name ≡ g.name → At l.table p q.parent m r d put → Others g.name k.table l.table p → Sets (view g k) (view h l) p (live parent (act_of m r) put (fds_seen g.name d))
    sets h l m r d put same at_it others = record {
      here = ap (λ n. seen n l.table p) same ∙ seen_up g.name l.table p up ∙ seen_at g.name l.table p q.parent m r d put at_it;
      others = λ x ne. ap (λ n. seen n l.table x) same ∙ seen_alike g.name g.name k.table l.table x (others x ne);
    }

    -- p goes on with a reply
    pub answer_sets : (h : Names) (m : KernelState User) (d : Descriptors) (r : Reply) → h.name ≡ g.name → At m.table p q.parent q.machine q.reply d q.put → Others g.name k.table m.table p → Sets (view g k) (view h (answered m p act.next r)) p (answered_seen parent act r (fds_seen g.name d))
    answer_sets h m d r same at_it others =
        sets h (answered m p act.next r) act.next r d 0 same (at_ready m.table p q.parent q.machine act.next q.reply r d q.put at_it)
        (others_then g.name k.table m.table (readied m.table p act.next r) p others (ready_others g.name m.table p act.next r))

    pub rest : (m : KernelState User) → m.files ≡ k.files → m.input ≡ k.input → m.out ≡ k.out → Rest (view g k) (view g m)
    rest m f i o = record { pipes = λ j. refl; places = λ e. refl; files = ap Rattle.mem_files.specs.Files.files f; input = i; out = o }

    pub mid_answers : (m : KernelState User) (d : Descriptors) (r : Reply) → Mid m d → Answers (view g k) (view g (answered m p act.next r)) p parent act r (fds_seen g.name d)
    mid_answers m d r mid = record { slots = answer_sets g m d r refl mid.own mid.others; rest = rest (answered m p act.next r) mid.files mid.input mid.out }

    -- nothing changes but p's slot
    pub only_answers : (r : Reply) → Answers (view g k) (view g (answered (counted k) p act.next r)) p parent act r fds
    only_answers r = record { slots = answer_sets g (counted k) q.fds r refl own (others_refl g.name k.table p); rest = rest (answered (counted k) p act.next r) refl refl refl }

    pub later_shows : Shows g k.entries k.pipes (Rattle.mem_files.specs.Files.files k.files) later
    later_shows = shows_later g k.entries k.pipes (Rattle.mem_files.specs.Files.files k.files) (k.events + 1) shows
