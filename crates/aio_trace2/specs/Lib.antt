pub mod MigratedTexts
