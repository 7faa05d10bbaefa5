-- How a call ends that doesn't sleep.
use Rattle.user_calls.specs.declared.calls.Reply.{Reply}
use Rattle.user_calls.specs.declared.calls.Reply.TheVariants.{Done as SaysDone, Fd as SaysFd, Ends as SaysEnds, Refused as SaysRefused}
use Rattle.proc_table.specs.declared.answers.Answer.{Answer}
use Rattle.proc_table.specs.declared.answers.Answer.TheVariants.{Done, Fd, Ends, Refused}
use Rattle.proc_table.specs.declared.states.Status.TheVariants.{Runnable}
use Rattle.proc_table.specs.Slots.{Process}

-- the reply of an answer
abbrev pub reply_of : Answer → Reply
reply_of Done = SaysDone
reply_of (Fd fd) = SaysFd fd
reply_of (Ends reader writer) = SaysEnds reader writer
reply_of Refused = SaysRefused

-- the same process Runnable, after the call that its machine made of the reply before, with this reply and nothing put
abbrev pub gone_on : {S : Type 0} → (S → Reply → S) → Reply → Process S → Process S
gone_on next reply p = record p { status = Runnable; machine = next p.machine p.reply; reply = reply; put = 0 }
