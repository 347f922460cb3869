pub mod SoundTextsLaws
