pub mod SeedWords
