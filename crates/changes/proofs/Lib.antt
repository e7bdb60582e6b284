mod ShiftLaws
