use Rattle.register.specs.Subjects.{is_clerk_subject}
use Rattle.rowcheck.proofs.subjects.is_clerk_subject.Goals as goal

pub returns : goal.returns
unfolding is_clerk_subject
returns c = rw (c.is_about_keying.ensures, c.parted.ensures.before, c.parted.ensures.after, c.as_bytes.ensures.value)
