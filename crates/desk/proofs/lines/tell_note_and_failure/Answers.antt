use Rattle.std.proofs.Common.{inl, inr, refl, ap, ◌+◌, ◌∙◌}
use Rattle.std.proofs.KnownBytes.{Appends-trans}
use Rattle.streams.proofs.Beginnings.{AppendsBeginning-front, AppendsBeginning-behind}
use Rattle.desk.proofs.lines.tell_note_and_failure.Goals as goal

pub returns-in-Ok : goal.returns-in-Ok
returns-in-Ok g c = elim c.tell_failure.ensures [
  | inl whole ↦ inl (Appends-trans _ _ _ _ _ c.in-Ok.ensures.all whole.0, whole.1 ∙ c.in-Ok.ensures.ok, whole.2)
  | inr part ↦ inr (AppendsBeginning-behind _ _ _ _ _ c.in-Ok.ensures.all part.0, part.1 ∙ ap (λ n. n + 1) c.in-Ok.ensures.ok, part.2)
]

pub returns-in-Err : goal.returns-in-Err
returns-in-Err g c = inr (AppendsBeginning-front _ _ _ _ c.in-Err.ensures.cut_off, c.in-Err.ensures.err, refl)
