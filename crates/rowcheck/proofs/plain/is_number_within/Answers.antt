use Rattle.std.specs.Str.{all_ascii_digits}
use Rattle.std.specs.Str.Parse.{digits_value}
use Rattle.rowcheck.proofs.PlainLemmas.{within, without}
use Rattle.rowcheck.proofs.plain.is_number_within.Goals as goal

pub returns-in-Some : goal.returns-in-Some
returns-in-Some c = within (all_ascii_digits c.args.digits.now) c.args.low c.args.high (digits_value 10 c.args.digits.now) c.in-Some.n c.in-Some.ensures

pub returns-in-None : goal.returns-in-None
returns-in-None c = without (all_ascii_digits c.args.digits.now) c.args.low c.args.high (digits_value 10 c.args.digits.now) c.in-None.ensures
