-- What an entry's reader answers, apart from where the payload lies in memory.
use Rattle.mj_entry.specs.Entry.{EntryCase}
use Rattle.mj_entry.specs.Entry.EntryCase.{Whole, Part, BadSentinel, BadLength, BadStart}
use Rattle.mj_entry.specs.declared.EntryRead.{EntryRead}
use Rattle.mj_entry.specs.declared.EntryRead.TheVariants as read

abbrev pub case_of : EntryRead → EntryCase
case_of (read.Whole payload ends) = Whole payload.now ends
case_of read.Part = Part
case_of read.BadSentinel = BadSentinel
case_of (read.BadLength n) = BadLength n
case_of (read.BadStart start) = BadStart start
