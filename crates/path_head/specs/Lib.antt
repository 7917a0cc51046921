pub mod HeadTexts
