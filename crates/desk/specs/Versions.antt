-- What is printed when the version is requested.
use Rattle.std.specs.Prelude.{◌++◌, codes}
use Rattle.std.specs.Fmt.{decimal}
use Rattle.clap.specs.Words.{Text}
use Rattle.store.specs.EntryRows.{this_version}
use Rattle.desk.specs.declared.version.TheConstants.{VERSION}

-- the program's version, and the version of the offices that it creates and opens, which is the store's
abbrev pub version_text : Text
version_text = codes "count-office " ++ VERSION.now ++ codes "\nmakes and opens offices of version " ++ decimal this_version ++ codes "\n"
