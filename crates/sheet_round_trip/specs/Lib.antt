-- An office's own texts and its own folders, checked independently of it.
pub mod OwnTexts
pub mod OwnFolders
