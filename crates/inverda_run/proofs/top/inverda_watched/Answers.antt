use Rattle.std.proofs.Common.{◌≡◌, refl, inl, inr}
use Rattle.bidel_script.specs.Script.{Over, Fault, Long, Open}
use Rattle.inverda_run.proofs.TopLemmas.{loads_not_generated, long_dump_is_over, long_dump_not_generated, long_dump_not_refused, long_dump_not_whole, early_once, early_once_filed, long_is_not_refused, long_not_told, nothing_started, nothing_told, passed_cut, passed_is_long, passed_once, ran_answers, ran_is_over, ran_not_longer, ran_not_refused, ran_unseen, refused_is_not_longer, refused_not_told, started_not_generated, started_not_longer, started_not_refused, stays_for, stopped_cut, stopped_is_fault, stopped_once, unread_cut, unread_rose}
use Rattle.inverda_run.proofs.top.inverda_watched.Goals as goal

pub returns-in-Done-clause-files : goal.returns-in-Done-clause-files
returns-in-Done-clause-files g c = stays_for (λ p. elim p [ inl is ↦ inl refl | inr rose ↦ inr rose ]) c.in-Done.ensures.files

pub returns-in-Memory-clause-files : goal.returns-in-Memory-clause-files
returns-in-Memory-clause-files g c = stays_for (λ p. elim p [ inl is ↦ (let no : ⊥ = cc in absurd no) | inr rose ↦ inr rose ]) c.in-Memory.ensures.files

pub returns-in-BadWords-clause-files : goal.returns-in-BadWords-clause-files
returns-in-BadWords-clause-files g c = stays_for (λ p. elim p [ inl is ↦ (let no : ⊥ = cc in absurd no) | inr rose ↦ inr rose ]) c.in-BadWords.ensures.files

pub returns-in-Syntax-clause-files : goal.returns-in-Syntax-clause-files
returns-in-Syntax-clause-files g c = stays_for (λ p. elim p [ inl is ↦ (let no : ⊥ = cc in absurd no) | inr rose ↦ inr rose ]) c.in-Syntax.ensures.files

pub returns-in-Refused-clause-files : goal.returns-in-Refused-clause-files
returns-in-Refused-clause-files g c = stays_for (λ p. elim p [ inl is ↦ (let no : ⊥ = cc in absurd no) | inr rose ↦ inr rose ]) c.in-Refused.ensures.files

pub returns-in-Unread-clause-files : goal.returns-in-Unread-clause-files
returns-in-Unread-clause-files g c = stays_for (λ p. elim p [ inl is ↦ (let no : ⊥ = cc in absurd no) | inr rose ↦ inr rose ]) c.in-Unread.ensures.files

pub returns-in-Unwritten-clause-files : goal.returns-in-Unwritten-clause-files
returns-in-Unwritten-clause-files g c = stays_for (λ p. elim p [ inl is ↦ (let no : ⊥ = cc in absurd no) | inr rose ↦ inr rose ]) c.in-Unwritten.ensures.files

pub returns-in-LongScript-clause-files : goal.returns-in-LongScript-clause-files
returns-in-LongScript-clause-files g c = stays_for (λ p. elim p [ inl is ↦ (let no : ⊥ = cc in absurd no) | inr rose ↦ inr rose ]) c.in-LongScript.ensures.files

pub returns-in-LongLoad-clause-files : goal.returns-in-LongLoad-clause-files
returns-in-LongLoad-clause-files g c = stays_for (λ p. elim p [ inl is ↦ (let no : ⊥ = cc in absurd no) | inr rose ↦ inr rose ]) c.in-LongLoad.ensures.files

pub returns-in-LongDump-clause-files : goal.returns-in-LongDump-clause-files
returns-in-LongDump-clause-files g c = stays_for (λ p. elim p [ inl is ↦ (let no : ⊥ = cc in absurd no) | inr rose ↦ inr rose ]) c.in-LongDump.ensures.files

pub returns-in-UnreadLoad-clause-files : goal.returns-in-UnreadLoad-clause-files
returns-in-UnreadLoad-clause-files g c = stays_for (λ p. elim p [ inl is ↦ (let no : ⊥ = cc in absurd no) | inr rose ↦ inr rose ]) c.in-UnreadLoad.ensures.files

pub returns-in-UnwrittenDump-clause-files : goal.returns-in-UnwrittenDump-clause-files
returns-in-UnwrittenDump-clause-files g c = stays_for (λ p. elim p [ inl is ↦ (let no : ⊥ = cc in absurd no) | inr rose ↦ inr rose ]) c.in-UnwrittenDump.ensures.files

pub returns-in-Done-clause-answers : goal.returns-in-Done-clause-answers
returns-in-Done-clause-answers g c = λ zero none. ran_answers c.in-Done.ensures.ends.0 none

pub returns-in-Done-clause-unseen : goal.returns-in-Done-clause-unseen
returns-in-Done-clause-unseen g c = λ zero none. ran_unseen c.requires c.in-Done.ensures.ends.0 none

pub returns-in-Done-clause-stops : goal.returns-in-Done-clause-stops
returns-in-Done-clause-stops g c = λ at told safe put files. let same : Fault at ≡ Over = ran_is_over c.words_say_one_thing.ensures c.in-Done.ensures.ends.0 told in cc

pub returns-in-Done-clause-passes : goal.returns-in-Done-clause-passes
returns-in-Done-clause-passes g c = λ told safe put files.
    elim told [ inl t ↦ (let same : Long ≡ Over = ran_is_over c.words_say_one_thing.ensures c.in-Done.ensures.ends.0 t in cc) | inr t ↦ (let same : Open ≡ Over = ran_is_over c.words_say_one_thing.ensures c.in-Done.ensures.ends.0 t in cc) ]

pub returns-in-Done-clause-refuses : goal.returns-in-Done-clause-refuses
returns-in-Done-clause-refuses g c = λ d put files. absurd (ran_not_refused c.words_say_one_thing.ensures c.in-Done.ensures.ends.0 d)

pub returns-in-Done-clause-longer : goal.returns-in-Done-clause-longer
returns-in-Done-clause-longer g c = λ d put files. absurd (ran_not_longer c.words_say_one_thing.ensures c.in-Done.ensures.ends.0 d)

pub returns-in-Done-clause-words_only : goal.returns-in-Done-clause-words_only
returns-in-Done-clause-words_only g c = λ none. absurd (none c.in-Done.ensures.ends.0.asked c.in-Done.ensures.ends.0.starts.says)

pub returns-in-BadWords-clause-complete : goal.returns-in-BadWords-clause-complete
returns-in-BadWords-clause-complete g c = λ told safe put files. absurd (nothing_told c.in-BadWords.ensures.ends.0 told.script)

pub returns-in-BadWords-clause-stops : goal.returns-in-BadWords-clause-stops
returns-in-BadWords-clause-stops g c = λ at told safe put files. absurd (nothing_told c.in-BadWords.ensures.ends.0 told)

pub returns-in-BadWords-clause-passes : goal.returns-in-BadWords-clause-passes
returns-in-BadWords-clause-passes g c = λ told safe put files. elim told [ inl t ↦ absurd (nothing_told c.in-BadWords.ensures.ends.0 t) | inr t ↦ absurd (nothing_told c.in-BadWords.ensures.ends.0 t) ]

pub returns-in-BadWords-clause-refuses : goal.returns-in-BadWords-clause-refuses
returns-in-BadWords-clause-refuses g c = λ d put files. absurd (c.in-BadWords.ensures.ends.0 d.loads.asked d.loads.says)

pub returns-in-BadWords-clause-longer : goal.returns-in-BadWords-clause-longer
returns-in-BadWords-clause-longer g c = λ d put files. absurd (c.in-BadWords.ensures.ends.0 d.loads.asked d.loads.says)

pub returns-in-Syntax-clause-complete : goal.returns-in-Syntax-clause-complete
returns-in-Syntax-clause-complete g c = λ told safe put files. let same = stopped_is_fault c.in-Syntax.ensures.ends.0 safe told.script in let clash : Over ≡ Fault same.0 = same.1 in cc

pub returns-in-Syntax-clause-passes : goal.returns-in-Syntax-clause-passes
returns-in-Syntax-clause-passes g c = λ told safe put files.
    elim told [
      | inl t ↦ (let same = stopped_is_fault c.in-Syntax.ensures.ends.0 safe t in let clash : Long ≡ Fault same.0 = same.1 in cc)
      | inr t ↦ (let same = stopped_is_fault c.in-Syntax.ensures.ends.0 safe t in let clash : Open ≡ Fault same.0 = same.1 in cc)
    ]

pub returns-in-Syntax-clause-cut_syntax : goal.returns-in-Syntax-clause-cut_syntax
returns-in-Syntax-clause-cut_syntax g c = λ three. stopped_cut c.in-Syntax.ensures.ends.0

pub returns-in-Refused-clause-complete : goal.returns-in-Refused-clause-complete
returns-in-Refused-clause-complete g c = λ told safe put files. absurd (refused_not_told c.words_say_one_thing.ensures c.in-Refused.ensures.ends.0 told.script)

pub returns-in-Refused-clause-stops : goal.returns-in-Refused-clause-stops
returns-in-Refused-clause-stops g c = λ at told safe put files. absurd (refused_not_told c.words_say_one_thing.ensures c.in-Refused.ensures.ends.0 told)

pub returns-in-Refused-clause-passes : goal.returns-in-Refused-clause-passes
returns-in-Refused-clause-passes g c = λ told safe put files. elim told [ inl t ↦ absurd (refused_not_told c.words_say_one_thing.ensures c.in-Refused.ensures.ends.0 t) | inr t ↦ absurd (refused_not_told c.words_say_one_thing.ensures c.in-Refused.ensures.ends.0 t) ]

pub returns-in-Refused-clause-longer : goal.returns-in-Refused-clause-longer
returns-in-Refused-clause-longer g c = λ d put files. absurd (refused_is_not_longer c.words_say_one_thing.ensures c.in-Refused.ensures.ends.0 d)

pub returns-in-Refused-clause-words_only : goal.returns-in-Refused-clause-words_only
returns-in-Refused-clause-words_only g c = λ none. absurd (none c.in-Refused.ensures.ends.0.loads.asked c.in-Refused.ensures.ends.0.loads.says)

pub returns-in-Unread-clause-complete : goal.returns-in-Unread-clause-complete
returns-in-Unread-clause-complete g c = λ told safe put files. absurd (safe (unread_rose c.in-Unread.ensures.ends.0))

pub returns-in-Unread-clause-stops : goal.returns-in-Unread-clause-stops
returns-in-Unread-clause-stops g c = λ at told safe put files. absurd (safe (unread_rose c.in-Unread.ensures.ends.0))

pub returns-in-Unread-clause-passes : goal.returns-in-Unread-clause-passes
returns-in-Unread-clause-passes g c = λ told safe put files. absurd (safe (unread_rose c.in-Unread.ensures.ends.0))

pub returns-in-Unread-clause-cut_read : goal.returns-in-Unread-clause-cut_read
returns-in-Unread-clause-cut_read g c = λ five. unread_cut c.in-Unread.ensures.ends.0

pub returns-in-Syntax-clause-refuses : goal.returns-in-Syntax-clause-refuses
returns-in-Syntax-clause-refuses g c = λ d put files. absurd (started_not_refused c.words_say_one_thing.ensures c.in-Syntax.ensures.ends.0 d)

pub returns-in-Syntax-clause-longer : goal.returns-in-Syntax-clause-longer
returns-in-Syntax-clause-longer g c = λ d put files. absurd (started_not_longer c.words_say_one_thing.ensures c.in-Syntax.ensures.ends.0 d)

pub returns-in-Syntax-clause-words_only : goal.returns-in-Syntax-clause-words_only
returns-in-Syntax-clause-words_only g c = λ none. absurd (nothing_started none c.in-Syntax.ensures.ends.0)

pub returns-in-Unread-clause-refuses : goal.returns-in-Unread-clause-refuses
returns-in-Unread-clause-refuses g c = λ d put files. absurd (started_not_refused c.words_say_one_thing.ensures c.in-Unread.ensures.ends.0 d)

pub returns-in-Unread-clause-longer : goal.returns-in-Unread-clause-longer
returns-in-Unread-clause-longer g c = λ d put files. absurd (started_not_longer c.words_say_one_thing.ensures c.in-Unread.ensures.ends.0 d)

pub returns-in-Unread-clause-words_only : goal.returns-in-Unread-clause-words_only
returns-in-Unread-clause-words_only g c = λ none. absurd (nothing_started none c.in-Unread.ensures.ends.0)

pub returns-in-LongScript-clause-refuses : goal.returns-in-LongScript-clause-refuses
returns-in-LongScript-clause-refuses g c = λ d put files. absurd (started_not_refused c.words_say_one_thing.ensures c.in-LongScript.ensures.ends.0 d)

pub returns-in-LongScript-clause-words_only : goal.returns-in-LongScript-clause-words_only
returns-in-LongScript-clause-words_only g c = λ none. absurd (nothing_started none c.in-LongScript.ensures.ends.0)

pub returns-in-LongScript-clause-complete : goal.returns-in-LongScript-clause-complete
returns-in-LongScript-clause-complete g c = λ told safe put files. elim (passed_is_long c.in-LongScript.ensures.ends.0 safe told.script) [ inl same ↦ cc | inr same ↦ cc ]

pub returns-in-LongScript-clause-stops : goal.returns-in-LongScript-clause-stops
returns-in-LongScript-clause-stops g c = λ at told safe put files. elim (passed_is_long c.in-LongScript.ensures.ends.0 safe told) [ inl same ↦ cc | inr same ↦ cc ]

pub returns-in-LongScript-clause-cut_long : goal.returns-in-LongScript-clause-cut_long
returns-in-LongScript-clause-cut_long g c = λ seven. inl (passed_cut c.in-LongScript.ensures.ends.0)

pub returns-in-LongLoad-clause-complete : goal.returns-in-LongLoad-clause-complete
returns-in-LongLoad-clause-complete g c = λ told safe put files. absurd (long_not_told c.words_say_one_thing.ensures c.in-LongLoad.ensures.ends.0 told.script)

pub returns-in-LongLoad-clause-stops : goal.returns-in-LongLoad-clause-stops
returns-in-LongLoad-clause-stops g c = λ at told safe put files. absurd (long_not_told c.words_say_one_thing.ensures c.in-LongLoad.ensures.ends.0 told)

pub returns-in-LongLoad-clause-refuses : goal.returns-in-LongLoad-clause-refuses
returns-in-LongLoad-clause-refuses g c = λ d put files. absurd (long_is_not_refused c.words_say_one_thing.ensures c.in-LongLoad.ensures.ends.0 d)

pub returns-in-LongLoad-clause-words_only : goal.returns-in-LongLoad-clause-words_only
returns-in-LongLoad-clause-words_only g c = λ none. absurd (none c.in-LongLoad.ensures.ends.0.loads.asked c.in-LongLoad.ensures.ends.0.loads.says)

pub returns-in-LongLoad-clause-long : goal.returns-in-LongLoad-clause-long
returns-in-LongLoad-clause-long g c = λ seven. inr (inl c.in-LongLoad.ensures.ends.0)

pub returns-in-LongLoad-clause-cut_long : goal.returns-in-LongLoad-clause-cut_long
returns-in-LongLoad-clause-cut_long g c = λ seven. inr (inl c.in-LongLoad.ensures.ends.0)

pub returns-in-LongDump-clause-complete : goal.returns-in-LongDump-clause-complete
returns-in-LongDump-clause-complete g c = λ told safe put files. absurd (long_dump_not_whole c.words_say_one_thing.ensures c.in-LongDump.ensures.ends.0 told)

pub returns-in-LongDump-clause-stops : goal.returns-in-LongDump-clause-stops
returns-in-LongDump-clause-stops g c = λ at told safe put files. let same : Fault at ≡ Over = long_dump_is_over c.words_say_one_thing.ensures c.in-LongDump.ensures.ends.0 told in cc

pub returns-in-LongDump-clause-refuses : goal.returns-in-LongDump-clause-refuses
returns-in-LongDump-clause-refuses g c = λ d put files. absurd (long_dump_not_refused c.words_say_one_thing.ensures c.in-LongDump.ensures.ends.0 d)

pub returns-in-LongDump-clause-words_only : goal.returns-in-LongDump-clause-words_only
returns-in-LongDump-clause-words_only g c = λ none. absurd (none c.in-LongDump.ensures.ends.0.ran.asked c.in-LongDump.ensures.ends.0.ran.starts.says)

pub returns-in-LongDump-clause-long : goal.returns-in-LongDump-clause-long
returns-in-LongDump-clause-long g c = λ seven. inr (inr c.in-LongDump.ensures.ends.0)

pub returns-in-LongDump-clause-cut_long : goal.returns-in-LongDump-clause-cut_long
returns-in-LongDump-clause-cut_long g c = λ seven. inr (inr c.in-LongDump.ensures.ends.0)

pub returns-in-UnreadLoad-clause-complete : goal.returns-in-UnreadLoad-clause-complete
returns-in-UnreadLoad-clause-complete g c = λ told safe put files. absurd (files c.in-UnreadLoad.ensures.ends.0)

pub returns-in-UnreadLoad-clause-passes : goal.returns-in-UnreadLoad-clause-passes
returns-in-UnreadLoad-clause-passes g c = λ told safe put files. absurd (files c.in-UnreadLoad.ensures.ends.0)

pub returns-in-UnreadLoad-clause-stops : goal.returns-in-UnreadLoad-clause-stops
returns-in-UnreadLoad-clause-stops g c = λ at told safe put files. absurd (files c.in-UnreadLoad.ensures.ends.0)

pub returns-in-UnreadLoad-clause-refuses : goal.returns-in-UnreadLoad-clause-refuses
returns-in-UnreadLoad-clause-refuses g c = λ d put files. absurd (files c.in-UnreadLoad.ensures.ends.0)

pub returns-in-UnreadLoad-clause-longer : goal.returns-in-UnreadLoad-clause-longer
returns-in-UnreadLoad-clause-longer g c = λ d put files. absurd (files c.in-UnreadLoad.ensures.ends.0)

pub returns-in-UnwrittenDump-clause-complete : goal.returns-in-UnwrittenDump-clause-complete
returns-in-UnwrittenDump-clause-complete g c = λ told safe put files. absurd (files c.in-UnwrittenDump.ensures.ends.0)

pub returns-in-UnwrittenDump-clause-passes : goal.returns-in-UnwrittenDump-clause-passes
returns-in-UnwrittenDump-clause-passes g c = λ told safe put files. absurd (files c.in-UnwrittenDump.ensures.ends.0)

pub returns-in-UnwrittenDump-clause-stops : goal.returns-in-UnwrittenDump-clause-stops
returns-in-UnwrittenDump-clause-stops g c = λ at told safe put files. absurd (files c.in-UnwrittenDump.ensures.ends.0)

pub returns-in-UnwrittenDump-clause-refuses : goal.returns-in-UnwrittenDump-clause-refuses
returns-in-UnwrittenDump-clause-refuses g c = λ d put files. absurd (files c.in-UnwrittenDump.ensures.ends.0)

pub returns-in-UnwrittenDump-clause-longer : goal.returns-in-UnwrittenDump-clause-longer
returns-in-UnwrittenDump-clause-longer g c = λ d put files. absurd (files c.in-UnwrittenDump.ensures.ends.0)

pub returns-in-UnreadLoad-clause-words_only : goal.returns-in-UnreadLoad-clause-words_only
returns-in-UnreadLoad-clause-words_only g c = λ none. absurd (none c.in-UnreadLoad.ensures.ends.1.loads.asked c.in-UnreadLoad.ensures.ends.1.loads.says)

pub returns-in-UnreadLoad-clause-fault : goal.returns-in-UnreadLoad-clause-fault
returns-in-UnreadLoad-clause-fault g c = λ eight. (c.in-UnreadLoad.ensures.ends.0, inl c.in-UnreadLoad.ensures.ends.1)

pub returns-in-UnwrittenDump-clause-words_only : goal.returns-in-UnwrittenDump-clause-words_only
returns-in-UnwrittenDump-clause-words_only g c = λ none. absurd (none c.in-UnwrittenDump.ensures.ends.1.ran.asked c.in-UnwrittenDump.ensures.ends.1.ran.starts.says)

pub returns-in-UnwrittenDump-clause-fault : goal.returns-in-UnwrittenDump-clause-fault
returns-in-UnwrittenDump-clause-fault g c = λ eight. (c.in-UnwrittenDump.ensures.ends.0, inr c.in-UnwrittenDump.ensures.ends.1)

pub returns-in-BadWords-clause-generates : goal.returns-in-BadWords-clause-generates
returns-in-BadWords-clause-generates g c = λ d put files. absurd (c.in-BadWords.ensures.ends.0 d.asked d.says)

pub returns-in-Syntax-clause-generates : goal.returns-in-Syntax-clause-generates
returns-in-Syntax-clause-generates g c = λ d put files. absurd (started_not_generated c.words_say_one_thing.ensures c.in-Syntax.ensures.ends.0 d)

pub returns-in-Unread-clause-generates : goal.returns-in-Unread-clause-generates
returns-in-Unread-clause-generates g c = λ d put files. absurd (started_not_generated c.words_say_one_thing.ensures c.in-Unread.ensures.ends.0 d)

pub returns-in-LongScript-clause-generates : goal.returns-in-LongScript-clause-generates
returns-in-LongScript-clause-generates g c = λ d put files. absurd (started_not_generated c.words_say_one_thing.ensures c.in-LongScript.ensures.ends.0 d)

pub returns-in-Refused-clause-generates : goal.returns-in-Refused-clause-generates
returns-in-Refused-clause-generates g c = λ d put files. absurd (loads_not_generated c.words_say_one_thing.ensures c.in-Refused.ensures.ends.0.loads d)

pub returns-in-LongLoad-clause-generates : goal.returns-in-LongLoad-clause-generates
returns-in-LongLoad-clause-generates g c = λ d put files. absurd (loads_not_generated c.words_say_one_thing.ensures c.in-LongLoad.ensures.ends.0.loads d)

pub returns-in-LongDump-clause-generates : goal.returns-in-LongDump-clause-generates
returns-in-LongDump-clause-generates g c = λ d put files. absurd (long_dump_not_generated c.words_say_one_thing.ensures c.in-LongDump.ensures.ends.0 d)

pub returns-in-UnreadLoad-clause-generates : goal.returns-in-UnreadLoad-clause-generates
returns-in-UnreadLoad-clause-generates g c = λ d put files. absurd (files c.in-UnreadLoad.ensures.ends.0)

pub returns-in-UnwrittenDump-clause-generates : goal.returns-in-UnwrittenDump-clause-generates
returns-in-UnwrittenDump-clause-generates g c = λ d put files. absurd (files c.in-UnwrittenDump.ensures.ends.0)

pub returns-in-Syntax-clause-once_read : goal.returns-in-Syntax-clause-once_read
returns-in-Syntax-clause-once_read g c = stopped_once c.in-Syntax.ensures.ends.0

pub returns-in-LongScript-clause-once_read : goal.returns-in-LongScript-clause-once_read
returns-in-LongScript-clause-once_read g c = passed_once c.in-LongScript.ensures.ends.0

pub returns-in-Unread-clause-once_read : goal.returns-in-Unread-clause-once_read
returns-in-Unread-clause-once_read g c = inr (unread_rose c.in-Unread.ensures.ends.0)

pub returns-in-Memory-clause-once_read : goal.returns-in-Memory-clause-once_read
returns-in-Memory-clause-once_read g c = early_once c.in-Memory.ensures.ends.0

pub returns-in-Unwritten-clause-once_read : goal.returns-in-Unwritten-clause-once_read
returns-in-Unwritten-clause-once_read g c = early_once c.in-Unwritten.ensures.ends.1

pub returns-in-Unwritten-clause-once_file : goal.returns-in-Unwritten-clause-once_file
returns-in-Unwritten-clause-once_file g c = early_once_filed c.in-Unwritten.ensures.ends.1

pub returns-in-LongLoad-clause-once_read : goal.returns-in-LongLoad-clause-once_read
returns-in-LongLoad-clause-once_read g c = inl c.in-LongLoad.ensures.ends.0.untouched.1

pub returns-in-LongDump-clause-once_read : goal.returns-in-LongDump-clause-once_read
returns-in-LongDump-clause-once_read g c = inl c.in-LongDump.ensures.ends.0.ran.calm

pub returns-in-UnreadLoad-clause-once_read : goal.returns-in-UnreadLoad-clause-once_read
returns-in-UnreadLoad-clause-once_read g c = inl c.in-UnreadLoad.ensures.ends.1.untouched.1

pub returns-in-UnwrittenDump-clause-once_read : goal.returns-in-UnwrittenDump-clause-once_read
returns-in-UnwrittenDump-clause-once_read g c = inl c.in-UnwrittenDump.ensures.ends.1.ran.calm

pub returns-in-UnreadLoad-clause-source : goal.returns-in-UnreadLoad-clause-source
returns-in-UnreadLoad-clause-source g c = λ rises. absurd (rises c.in-UnreadLoad.ensures.ends.1.untouched.1)

pub returns-in-UnwrittenDump-clause-source : goal.returns-in-UnwrittenDump-clause-source
returns-in-UnwrittenDump-clause-source g c = λ rises. absurd (rises c.in-UnwrittenDump.ensures.ends.1.ran.calm)

pub returns-in-LongScript-clause-long : goal.returns-in-LongScript-clause-long
returns-in-LongScript-clause-long g c = λ seven. inl c.in-LongScript.ensures.ends.0

pub returns-in-Syntax-clause-syntax : goal.returns-in-Syntax-clause-syntax
returns-in-Syntax-clause-syntax g c = λ three. c.in-Syntax.ensures.ends.0

pub returns-in-Unread-clause-read : goal.returns-in-Unread-clause-read
returns-in-Unread-clause-read g c = λ five. c.in-Unread.ensures.ends.0

pub returns-in-Memory-clause-begun : goal.returns-in-Memory-clause-begun
returns-in-Memory-clause-begun g c = λ early. c.in-Memory.ensures.ends.0

pub returns-in-Unwritten-clause-begun : goal.returns-in-Unwritten-clause-begun
returns-in-Unwritten-clause-begun g c = λ early. c.in-Unwritten.ensures.ends.1
