use Rattle.register.specs.Subjects.{is_office_subject}
use Rattle.rowcheck.proofs.subjects.is_office_subject.Goals as goal

pub returns : goal.returns
unfolding is_office_subject
returns c = rw (c.is_of_office.ensures, c.parted.ensures.before, c.parted.ensures.after, c.as_bytes.ensures.value)
